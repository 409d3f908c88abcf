use Rattle.std.proofs.Common.{◌≡◌, List, []}
use Rattle.std.specs.FinMap as map
use Rattle.accounts.proofs.Changes.{empty_kept}
use Rattle.accounts.proofs.accounts.Accounts.new.Goals as goal
use Rattle.accounts.specs.declared.line.Line.{Line}
use Rattle.accounts.specs.declared.account.Account.{Account}
use Rattle.accounts.specs.Reservations.{ReservationMap}
use Rattle.accounts.specs.Caches.{AreKept}

at_empty : (xs : List Account) (m : ReservationMap) (ls : List Line) → xs ≡ [] → m ≡ map.empty → ls ≡ [] → AreKept xs m ls
at_empty xs m ls a b d = rw (a, b, d) empty_kept

pub invariant_of-result : goal.invariant_of-result
invariant_of-result c = at_empty c.new.result.items c.new-2.result.of c.new-3.result.items c.new.ensures.items c.new-2.ensures c.new-3.ensures.items
