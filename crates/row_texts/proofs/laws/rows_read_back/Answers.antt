use Rattle.row_texts.proofs.RowsBack.{row_back, rows_back}
use Rattle.row_texts.proofs.laws.rows_read_back.Goals as goal

pub returns : goal.returns
returns c = record { row = row_back; rows = rows_back }
