use Rattle.std.proofs.Common.{◌≡◌, ◌≤◌, take}
use Rattle.wire.specs.Front.{line_feeds}
use Rattle.wire.proofs.front.count_few.Given as goal

abbrev pub invariant-loop-byte : goal.invariant-loop-byte
invariant-loop-byte l = record {
  so_far : l.count ≡ line_feeds (take l.byte-index l.bytes);
  few : l.count ≤ l.byte-index;
}
