-- How many bytes rows have (this product's own).
use Rattle.std.specs.Prelude.{ℕ, ◌+◌, ◌-◌, nat_lt, List, [], ◌∷◌, Option, Some, None, if◌then◌else◌}
use Rattle.row_fields.specs.Fields.{row_size}

-- the number of the first row with which rows, the first of which has this number, have more bytes than that
abbrev pub first_past : ℕ → ℕ → List (List (List ℕ)) → Option ℕ
first_past most number [] = None
first_past most number (row ∷ rows) = if nat_lt most (row_size row) then Some number else first_past (most - row_size row) (number + 1) rows
