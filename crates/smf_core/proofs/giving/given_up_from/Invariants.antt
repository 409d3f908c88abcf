use Rattle.std.proofs.Common.{◌≡◌, ◌++◌, drop}
use Rattle.smf_model.specs.GivenUps.{given_up_of}
use Rattle.smf_core.proofs.giving.given_up_from.Given as goal

abbrev pub invariant-loop-holding : goal.invariant-loop-holding
invariant-loop-holding l = l.given.items ++ given_up_of (drop l.holding-index l.holdings) ≡ given_up_of l.holdings
