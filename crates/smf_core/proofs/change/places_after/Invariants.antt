use Rattle.std.proofs.Common.{◌≡◌, ◌+◌, ◌-◌, ◌++◌, drop, length}
use Rattle.smf_core.specs.Caches.{live_after}
use Rattle.smf_core.proofs.change.places_after.Given as goal

abbrev pub invariant-loop-at : goal.invariant-loop-at
invariant-loop-at l = l.next ++ live_after (drop l.at l.places) (l.count + (l.at - length l.places)) (drop l.at l.moved) ≡ live_after l.places l.count l.moved
