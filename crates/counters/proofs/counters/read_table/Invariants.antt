use Rattle.std.proofs.Common.{◌≡◌, drop, take, [], length}
use Rattle.counters.specs.Row.{counter_rows}
use Rattle.counters.specs.Grammar.{first_bad}
use Rattle.counters.specs.Caches.{IsOf}
use Rattle.counters.proofs.counters.read_table.Given as goal

abbrev pub invariant-loop-at : goal.invariant-loop-at
invariant-loop-at l = record {
  run : first_bad [] l.rows ≡ first_bad (counter_rows (take l.at l.rows)) (drop l.at l.rows);
  count : length (counter_rows (take l.at l.rows)) ≡ l.at;
  table : IsOf (counter_rows (take l.at l.rows)) l.table;
}
