use Rattle.std.proofs.Common.{ℕ, List, [], true, length}
use Rattle.records.specs.declared.place.Place.TheVariants as places
use Rattle.records.specs.Reading.{with_trigger}
use Rattle.records.specs.Ordered.{Makes}
use Rattle.records.proofs.ordered.triggers.Given as goal

abbrev pub invariant-loop-rest : goal.invariant-loop-rest
invariant-loop-rest l = (ts : List (List ℕ)) → Makes 10 (places.Triggers true) with_trigger l.all ts l.rest → Makes 10 (places.Triggers true) with_trigger [] ts l.fn.bytes

abbrev pub decreases-loop-rest : goal.decreases-loop-rest
decreases-loop-rest l = length l.rest
