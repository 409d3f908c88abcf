use Rattle.std.proofs.Common.{◌≡◌, ◌+◌, ◌<◌, ◌≤◌, drop}
use Rattle.wire.specs.Front.{up_to}
use Rattle.wire.proofs.front.front_of.Given as goal

abbrev pub invariant-loop-at : goal.invariant-loop-at
invariant-loop-at l = record {
  some : 0 < l.lines;
  few : l.lines ≤ 66;
  so_far : up_to 66 l.bytes ≡ l.at + up_to l.lines (drop l.at l.bytes);
}
