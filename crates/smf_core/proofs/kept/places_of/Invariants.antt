use Rattle.std.proofs.Common.{◌≡◌, ◌++◌, drop}
use Rattle.smf_core.specs.Caches.{places_from}
use Rattle.smf_core.proofs.kept.places_of.Given as goal

abbrev pub invariant-loop-at : goal.invariant-loop-at
invariant-loop-at l = l.places ++ places_from l.at (drop l.at l.all) ≡ places_from 0 l.all
