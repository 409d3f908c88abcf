use Rattle.std.proofs.Common.{◌≡◌, ◌+◌, ◌^◌, ◌<◌, drop}
use Rattle.chf_rows.specs.Size.{first_past}
use Rattle.chf_rows.proofs.size.first_past.Given as goal

abbrev pub invariant-loop-row : goal.invariant-loop-row
invariant-loop-row l = record {
  count : l.number ≡ l.row-index + 1;
  small : l.room < 2 ^ 32;
  run : first_past l.most 1 l.rows ≡ first_past l.room l.number (drop l.row-index l.rows);
}
