use Rattle.std.proofs.Common.{◌≡◌, ◌+◌, drop, option_map}
use Rattle.records.specs.Groups.{place_of}
use Rattle.records.proofs.unclosed.place.Given as goal

abbrev pub invariant-loop-at : goal.invariant-loop-at
invariant-loop-at l = place_of l.groups l.number ≡ option_map (λ i. i + l.at) (place_of (drop l.at l.groups) l.number)
