use Rattle.std.proofs.Common.{List, [], length}
use Rattle.units.specs.declared.request.Used.{Used}
use Rattle.records.specs.declared.place.Place.TheVariants as places
use Rattle.records.specs.Reading.{with_container}
use Rattle.records.specs.Ordered.{Makes}
use Rattle.records.proofs.ordered.containers.Given as goal

abbrev pub invariant-loop-rest : goal.invariant-loop-rest
invariant-loop-rest l =
    (us : List Used) → Makes 12 places.Containers (with_container l.fn.group) (l.all, 0) (us, 0) l.rest → Makes 12 places.Containers (with_container l.fn.group) ([], 0) (us, 0) l.fn.bytes

abbrev pub decreases-loop-rest : goal.decreases-loop-rest
decreases-loop-rest l = length l.rest
