use Rattle.row_texts.proofs.Sizes.{line_size, lines_size}
use Rattle.row_texts.proofs.laws.rows_have_sizes.Goals as goal

pub returns : goal.returns
returns c = record { row = line_size; rows = lines_size }
