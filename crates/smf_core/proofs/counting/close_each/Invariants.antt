use Rattle.std.proofs.Common.{◌≡◌, ◌++◌, map, take, drop}
use Rattle.smf_model.specs.Traffic.{close_of}
use Rattle.smf_core.proofs.counting.close_each.Given as goal

abbrev pub invariant-loop-holding : goal.invariant-loop-holding
invariant-loop-holding l = l.holdings ≡ map (close_of l.group l.moment l.trigger) (take l.holding-index l.fn.holdings) ++ drop l.holding-index l.fn.holdings
