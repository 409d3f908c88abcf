use Rattle.std.proofs.Common.{◌≡◌, ℕ, get_or}
use Rattle.rating.proofs.Begun.{written}
use Rattle.rating.proofs.search.begin.Given as goal

abbrev pub invariant-loop-k : goal.invariant-loop-k
invariant-loop-k l = (j : ℕ) → get_or l.begun j 0 ≡ written l.initial.begun l.hour l.k l.count j
