use Rattle.std.proofs.Common.{◌≡◌, ◌≤◌, ◌+◌, ◌++◌, drop, length, vec_len, vec_capacity}
use Rattle.smf_core.specs.Reads.{containers_of}
use Rattle.smf_core.proofs.kept.hold.Given as goal

abbrev pub invariant-loop-holding : goal.invariant-loop-holding
invariant-loop-holding l = record {
  held : l.held.items ++ containers_of (drop l.holding-index l.live) ≡ containers_of l.live;
  room : vec_len l.held + length (drop l.holding-index l.live) ≤ vec_capacity l.held;
}
