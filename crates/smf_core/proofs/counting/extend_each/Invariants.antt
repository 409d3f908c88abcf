use Rattle.std.proofs.Common.{◌≡◌, ◌++◌, map, take, drop}
use Rattle.smf_model.specs.Traffic.{extend_of}
use Rattle.smf_core.proofs.counting.extend_each.Given as goal

abbrev pub invariant-loop-holding : goal.invariant-loop-holding
invariant-loop-holding l = l.holdings ≡ map (extend_of l.report) (take l.holding-index l.fn.holdings) ++ drop l.holding-index l.fn.holdings
