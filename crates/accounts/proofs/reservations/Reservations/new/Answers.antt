use Rattle.std.proofs.Common.{ap}
use Rattle.std.specs.HashMap.{get}
use Rattle.std.specs.Map.{lookup}
use Rattle.accounts.specs.Reservations.{key_eq}
use Rattle.accounts.proofs.Indexed.{new_indexed}
use Rattle.accounts.proofs.reservations.Reservations.new.Goals as goal

pub invariant_of-result : goal.invariant_of-result
invariant_of-result c = new_indexed (get key_eq c.new.result) c.new-2.result.dues c.new-3.result (λ q. ap (lookup (key_eq q)) c.new.ensures.empty) c.new-2.ensures c.new-3.ensures.chained c.new-3.ensures.none
