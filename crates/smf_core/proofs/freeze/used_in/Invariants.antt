use Rattle.std.proofs.Common.{◌≡◌, ◌++◌, drop}
use Rattle.smf_model.specs.Freeze.{used_of}
use Rattle.smf_core.proofs.freeze.used_in.Given as goal

abbrev pub invariant-loop-holding : goal.invariant-loop-holding
invariant-loop-holding l = l.used.items ++ used_of l.group (drop l.holding-index l.holdings) ≡ used_of l.group l.holdings
