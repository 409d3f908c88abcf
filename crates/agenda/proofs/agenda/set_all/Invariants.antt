use Rattle.std.proofs.Common.{◌≡◌, ◌++◌, drop, take}
use Rattle.agenda.specs.Rows.{set_rows}
use Rattle.agenda.proofs.Setting.{AreLeft}
use Rattle.agenda.proofs.agenda.set_all.Given as goal

abbrev pub invariant-loop-level : goal.invariant-loop-level
invariant-loop-level l = record {
  value : take l.level l.rows ++ set_rows (drop l.level l.rows) l.at l.next ≡ set_rows l.fn.rows l.fn.place l.fn.mark;
  left : AreLeft (drop l.level l.rows) l.at;
}
