use Rattle.std.proofs.Common.{◌≡◌, ◌+◌, drop}
use Rattle.chf_rows.specs.Setup.{counters_place}
use Rattle.chf_rows.proofs.setup_rows.counters_place.Given as goal

abbrev pub invariant-loop-row : goal.invariant-loop-row
invariant-loop-row l = record {
  count : l.place ≡ l.row-index;
  run : counters_place l.rows ≡ l.place + counters_place (drop l.row-index l.rows);
}
