use Rattle.std.proofs.Common.{◌≡◌, ◌≤◌, ◌+◌, reverse, vec_len, vec_capacity, length}
use Rattle.records.specs.Usage.{with_usage}
use Rattle.records.specs.Sums.{sums_of}
use Rattle.records.specs.Groups.{usage_seen, AreApart, HaveAllPlaces}
use Rattle.records.proofs.unclosed.join_all.Given as goal

abbrev pub invariant-loop-entry : goal.invariant-loop-entry
invariant-loop-entry l = record {
  usage : with_usage (usage_seen l.groups.items) (reverse l.left.items) ≡ with_usage (usage_seen l.fn.groups.items) l.fn.used;
  apart : AreApart (reverse l.left.items);
  places : HaveAllPlaces l.groups.items (reverse l.left.items);
  capacity : vec_capacity l.groups ≡ vec_capacity l.fn.groups;
  len : vec_len l.groups + vec_len l.left ≤ vec_len l.fn.groups + length l.fn.used;
  sums : l.sums ≡ sums_of (usage_seen l.groups.items);
}

abbrev pub decreases-loop-entry : goal.decreases-loop-entry
decreases-loop-entry l = vec_len l.left
