use Rattle.std.proofs.Common.{◌≡◌, ◌+◌, drop}
use Rattle.chf_rows.specs.Setup.{limits_place}
use Rattle.chf_rows.proofs.limits.limits_place.Given as goal

abbrev pub invariant-loop-row : goal.invariant-loop-row
invariant-loop-row l = record {
  count : l.place ≡ l.row-index;
  run : limits_place l.rows ≡ l.place + limits_place (drop l.row-index l.rows);
}
