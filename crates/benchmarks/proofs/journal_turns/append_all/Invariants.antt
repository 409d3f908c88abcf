use Rattle.std.proofs.Common.{◌≤◌, ℕ, List, length, IsTrue}
use Rattle.journal.specs.Lists.{IsTied}
use Rattle.benchmarks.proofs.journal_turns.append_all.Given as goal

abbrev pub invariant-loop-turn : goal.invariant-loop-turn
invariant-loop-turn g l = record {
  some : 1 ≤ length l.entry;
  most : length l.entry ≤ 1000000;
  sound : IsTrue l.journal.is_sound;
  tied : (list : List (List ℕ)) × IsTied l.journal (g.D.Disk.content l.disk) (g.D.Disk.told_epoch l.disk) (g.D.Disk.is_image l.disk) list;
}
