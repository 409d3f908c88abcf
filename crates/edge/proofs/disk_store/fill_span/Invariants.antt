use Rattle.std.proofs.Common.{◌≡◌, ◌⊎◌, ◌-◌, ◌%◌, ◌<◌, ◌≤◌, ℕ, length, get_or}
use Rattle.edge.proofs.disk_store.fill_span.Given as goal

abbrev pub invariant-loop-k : goal.invariant-loop-k
invariant-loop-k l = record {
  inside : (j : ℕ) → j < length l.bytes → l.span.at ≤ j → j < l.k → get_or l.bytes j 0 ≡ get_or l.fill ((j - l.span.at) % length l.fill) 0;
  outside : (j : ℕ) → (j < l.span.at) ⊎ (l.k ≤ j) → get_or l.bytes j 0 ≡ get_or l.initial.bytes j 0;
}
