use Rattle.std.proofs.Common.{◌≡◌, ◌++◌, [], ◌∷◌, vec_len}
use Rattle.agenda.specs.Rows.{first_row}
use Rattle.agenda.proofs.Building.{AreRowsTo}
use Rattle.agenda.proofs.row.rows_over.Given as goal

abbrev pub invariant-over : goal.invariant-over
invariant-over l = record {
  chain : AreRowsTo l.rows.items l.row.items;
  first : first_row (l.rows.items ++ l.row.items ∷ []) ≡ l.fn.marks.items;
}

abbrev pub decreases-over : goal.decreases-over
decreases-over l = vec_len l.row
