use Rattle.std.proofs.Common.{◌≡◌, ◌++◌, drop, filter}
use Rattle.smf_core.specs.Reads.{is_held}
use Rattle.smf_core.proofs.change.held_from.Given as goal

abbrev pub invariant-loop-holding : goal.invariant-loop-holding
invariant-loop-holding l = l.held.items ++ filter is_held (drop l.holding-index l.holdings) ≡ filter is_held l.holdings
