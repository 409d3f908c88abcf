use Rattle.std.proofs.Common.{◌≡◌, ◌≤◌, ◌+◌, ◌++◌, reverse, vec_len, vec_capacity}
use Rattle.records.specs.Groups.{usage_seen}
use Rattle.records.proofs.unclosed.entries.Given as goal

abbrev pub invariant-loop-group : goal.invariant-loop-group
invariant-loop-group l = record {
  is : l.list.items ++ usage_seen (reverse l.left.items) ≡ usage_seen l.fn.groups.items;
  room : vec_len l.list + vec_len l.left ≤ vec_capacity l.list;
}

abbrev pub decreases-loop-group : goal.decreases-loop-group
decreases-loop-group l = vec_len l.left
