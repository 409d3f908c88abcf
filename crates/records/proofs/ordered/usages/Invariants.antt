use Rattle.std.proofs.Common.{List, [], true, length}
use Rattle.units.specs.declared.request.UnitUsage.{UnitUsage}
use Rattle.records.specs.declared.place.Place.TheVariants as places
use Rattle.records.specs.Reading.{with_unit_usage}
use Rattle.records.specs.Ordered.{Makes}
use Rattle.records.proofs.ordered.usages.Given as goal

abbrev pub invariant-loop-rest : goal.invariant-loop-rest
invariant-loop-rest l =
    (us : List UnitUsage) → Makes 14 (places.Usages true) with_unit_usage (l.all, 0) (us, 0) l.rest → Makes 14 (places.Usages true) with_unit_usage ([], 0) (us, 0) l.fn.bytes

abbrev pub decreases-loop-rest : goal.decreases-loop-rest
decreases-loop-rest l = length l.rest
