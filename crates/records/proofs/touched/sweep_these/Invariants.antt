use Rattle.std.proofs.Common.{◌≡◌, ◌+◌, drop, vec_len, vec_capacity}
use Rattle.std.specs.List.{Contains}
use Rattle.records.specs.Book.{all_swept, closable}
use Rattle.records.specs.Seen.{sessions_seen, numbers_of, SequencesAreWithin, EachClosable}
use Rattle.records.proofs.touched.sweep_these.Given as goal

abbrev pub invariant-loop-number : goal.invariant-loop-number
invariant-loop-number l = record {
  swept : all_swept (sessions_seen l.sessions) l.stamp l.closed.items ≡ all_swept (sessions_seen l.initial.sessions) l.stamp l.initial.closed.items;
  touched : EachClosable (Contains (drop l.number-index l.touched)) (sessions_seen l.sessions);
  numbers : numbers_of l.sessions ≡ numbers_of l.initial.sessions;
  sequences : SequencesAreWithin (vec_len l.closed) l.sessions;
  capacity : vec_capacity l.closed ≡ vec_capacity l.initial.closed;
  left : vec_len l.closed + closable (sessions_seen l.sessions) ≡ vec_len l.initial.closed + closable (sessions_seen l.initial.sessions);
}
