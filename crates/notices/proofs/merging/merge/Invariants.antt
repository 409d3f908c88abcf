use Rattle.std.proofs.Common.{◌≡◌, ◌+◌, ◌≤◌, ◌++◌, reverse}
use Rattle.std.specs.Prelude.{vec_len, vec_capacity}
use Rattle.std.specs.List.Sorted.{IsNonDecreasingBy}
use Rattle.notices.specs.InOrder.{all_put}
use Rattle.notices.proofs.merging.merge.Given as goal

abbrev pub invariant-loop-notice : goal.invariant-loop-notice
invariant-loop-notice l = record {
  order : IsNonDecreasingBy (λ n. n.id) l.notices.items;
  more : IsNonDecreasingBy (λ n. n.id) l.more.items;
  room : vec_len l.into + (vec_len l.notices + vec_len l.more) ≤ vec_capacity l.into;
  merged : all_put (λ n. n.id) l.notices.items l.more.items ++ reverse l.into.items ≡ all_put (λ n. n.id) l.fn.notices.items l.fn.more.items;
}

abbrev pub decreases-loop-notice : goal.decreases-loop-notice
decreases-loop-notice l = goal.left-loop-notice l
