use Rattle.std.proofs.Common.{◌≡◌, ◌≤◌, ◌<◌, ◌-◌, ◌^◌, min, ℕ, Some, length, take, List}
use Rattle.std.specs.Prelude.{⊤}
use Rattle.edge.specs.Disk.{KeepsImages, KeepsRoom}
use Rattle.journal.specs.Bytes.{front}
use Rattle.journal.specs.Reads.{IsHeadAt}
use Rattle.journal.proofs.reading.load.Given as goal

abbrev pub invariant-loop-head : goal.invariant-loop-head
invariant-loop-head g l = record {
  here : l.at < l.end;
  most : l.end ≤ 2 ^ 30;
  told : (b : List ℕ) → g.D.Disk.content l.fn.disk ≡ Some b → l.end ≡ min (length b) (2 ^ 30);
  long : length (front l.list) ≡ l.at;
  read : (b : List ℕ) → g.D.Disk.content l.fn.disk ≡ Some b → take l.at b ≡ front l.list;
  small : l.head.size < 2 ^ 32;
  head : (b : List ℕ) → g.D.Disk.content l.fn.disk ≡ Some b → IsHeadAt b l.at l.head;
  same : g.D.Disk.content l.disk ≡ g.D.Disk.content l.fn.disk;
  epoch : g.D.Disk.told_epoch l.disk ≡ g.D.Disk.told_epoch l.fn.disk;
  crash : KeepsImages (g.D.Disk.is_image l.fn.disk) (g.D.Disk.is_image l.disk);
  count : g.D.Counted.faults l.fn.disk ≤ g.D.Counted.faults l.disk;
  openings : g.D.Counted.failed_openings l.disk ≡ g.D.Counted.failed_openings l.fn.disk;
  room : KeepsRoom (g.D.Counted.faults l.fn.disk) (g.D.Counted.faults l.disk) (g.D.Disk.room l.fn.disk) (g.D.Disk.room l.disk) (λ r. ⊤) 0;
}

abbrev pub decreases-loop-head : goal.decreases-loop-head
decreases-loop-head g l = l.end - l.at
