use Rattle.std.proofs.Common.{◌≡◌, ◌||◌, ℕ, nat_eq, drop}
use Rattle.std.specs.HashSet.{contains}
use Rattle.chf_core.specs.Barring.{bars}
use Rattle.chf_core.proofs.barred.set_of.Given as goal

abbrev pub invariant-loop-group : goal.invariant-loop-group
invariant-loop-group l =
    (g : ℕ) → (contains nat_eq l.found g || bars (drop l.group-index l.groups) g) ≡ bars l.groups g
