use Rattle.std.proofs.Common.{◌≡◌, ◌+◌, ℕ, length}
use Rattle.notices.specs.Places.{ids_at}
use Rattle.notices.proofs.by_account.make_lists.Given as goal

abbrev pub invariant-loop : goal.invariant-loop
invariant-loop l = record {
  same : (other : ℕ) → ids_at l.lists.items other ≡ ids_at l.fn.lists.items other;
  size : length l.lists.items ≡ length l.fn.lists.items + l.counter;
}
