use Rattle.std.proofs.Common.{◌≡◌, drop, take, []}
use Rattle.rating.specs.Tariff.{tariff_rows}
use Rattle.rating.specs.Grammar.{first_bad}
use Rattle.rating.proofs.tariffs.read_table.Given as goal

abbrev pub invariant-loop-fields : goal.invariant-loop-fields
invariant-loop-fields l = record {
  run : first_bad [] l.rows ≡ first_bad l.reading (drop l.fields-index l.rows);
  read : l.reading ≡ tariff_rows (take l.fields-index l.rows);
}
