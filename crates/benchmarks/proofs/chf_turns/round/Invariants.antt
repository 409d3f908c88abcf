use Rattle.std.proofs.Common.{◌≡◌, ◌==◌, false}
use Rattle.benchmarks.proofs.chf_turns.round.Given as goal

abbrev pub invariant-loop-session : goal.invariant-loop-session
invariant-loop-session l = (l.chf.state.count == 0) ≡ false
