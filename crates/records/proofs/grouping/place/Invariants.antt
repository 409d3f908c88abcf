use Rattle.std.proofs.Common.{◌≡◌, ◌+◌, drop, option_map}
use Rattle.records.specs.Usage.{entry_place}
use Rattle.records.proofs.grouping.place.Given as goal

abbrev pub invariant-loop-at : goal.invariant-loop-at
invariant-loop-at l = entry_place l.entries l.group ≡ option_map (λ i. i + l.at) (entry_place (drop l.at l.entries) l.group)
