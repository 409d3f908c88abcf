-- How many bytes rows have.
use Rattle.std.proofs.Common.{◌≡◌, ◌+◌, ◌≤◌, ◌<◌, ℕ, true, List, [], ◌∷◌, ◌++◌, length, refl, arith, sum_by, length-append}
use Rattle.std.specs.List.{flat_map, list_all}
use Rattle.std.proofs.lemmas.Bool.{and_parts}
use Rattle.std.proofs.lemmas.List.Sums.{sum_by-cons}
use Rattle.row_fields.specs.Fields.{row_size}
use Rattle.row_texts.specs.RowTexts.{later_field, row_line, row_text, rows_text}
use Rattle.row_texts.specs.ReadBack.{is_row}

later_size : (fields : List (List ℕ)) → length (flat_map later_field fields) ≡ sum_by length fields + length fields
later_size [] = refl
later_size (field ∷ fields) = omega (arith, length-append field (flat_map later_field fields), later_size fields, sum_by-cons length field fields)

pub line_size : (row : List (List ℕ)) → is_row row ≡ true → length (row_text row) + 1 ≡ row_size row
line_size [] h = absurd (cc)
line_size (first ∷ fields) h = omega (arith, length-append first (flat_map later_field fields), later_size fields, sum_by-cons length first fields)

pub lines_size : (rows : List (List (List ℕ))) → list_all is_row rows ≡ true → length (rows_text rows) ≡ sum_by row_size rows
lines_size [] h = refl
lines_size (row ∷ rows) h =
    let both = and_parts (is_row row) (list_all is_row rows) h in
    omega (arith, length-append (row_text row ++ 10 ∷ []) (rows_text rows), length-append (row_text row) (10 ∷ []), line_size row both.0, lines_size rows both.1, sum_by-cons row_size row rows)
