use Rattle.std.proofs.Common.{◌≡◌, ◌+◌, ◌-◌, ◌≤◌, ◌++◌, take, drop, reverse}
use Rattle.std.specs.Prelude.{vec_len, vec_capacity}
use Rattle.notices.proofs.merging.move_from.Given as goal

abbrev pub invariant-loop-notices : goal.invariant-loop-notices
invariant-loop-notices l = record {
  from : l.at ≤ vec_len l.notices;
  upto : vec_len l.notices ≤ vec_len l.fn.notices;
  kept : l.notices.items ≡ take (vec_len l.notices) l.fn.notices.items;
  moved : l.into.items ≡ l.fn.into.items ++ reverse (drop (vec_len l.notices) l.fn.notices.items);
  room : vec_len l.into + (vec_len l.notices - l.at) ≤ vec_capacity l.into;
  capacity : vec_capacity l.into ≡ vec_capacity l.fn.into;
}

abbrev pub decreases-loop-notices : goal.decreases-loop-notices
decreases-loop-notices l = goal.left-loop-notices l
