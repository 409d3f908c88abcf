use Rattle.std.proofs.Common.{◌≡◌, drop}
use Rattle.smf_core.specs.Caches.{first_given_up}
use Rattle.smf_core.proofs.giving.first_given_up.Given as goal

abbrev pub invariant-loop-at : goal.invariant-loop-at
invariant-loop-at l = first_given_up (drop l.at l.places) (drop l.at l.moved) l.count ≡ first_given_up l.places l.moved l.count
