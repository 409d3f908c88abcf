use Rattle.std.proofs.Common.{◌≡◌, length}
use Rattle.rows.specs.Pieces.{pieces}
use Rattle.row_texts.specs.RowTexts.{rows_of}
use Rattle.row_texts.proofs.Lines.{more_rows}
use Rattle.row_texts.proofs.reading.rows_in.Given as goal

abbrev pub invariant-loop-rest : goal.invariant-loop-rest
invariant-loop-rest l = rows_of (pieces 10 l.fn.text) ≡ more_rows l.rows (rows_of (pieces 10 l.rest))

abbrev pub decreases-loop-rest : goal.decreases-loop-rest
decreases-loop-rest l = length l.rest
