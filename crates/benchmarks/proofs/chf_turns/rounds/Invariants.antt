use Rattle.std.proofs.Common.{◌≡◌, ◌==◌, false}
use Rattle.benchmarks.proofs.chf_turns.rounds.Given as goal

abbrev pub invariant-loop-turn : goal.invariant-loop-turn
invariant-loop-turn l = (l.chf.state.count == 0) ≡ false
