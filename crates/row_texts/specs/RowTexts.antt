-- Rows as texts (this product's own).
use Rattle.std.specs.Prelude.{ℕ, List, [], ◌∷◌, ◌++◌, length, nat_eq, Option, Some, None, if◌then◌else◌, option_and_then, option_map, decimal}
use Rattle.std.specs.List.{flat_map, list_all}
use Rattle.std.specs.Str.{is_utf8}
use Rattle.rows.specs.Pieces.{pieces}

-- ---- written

-- a field after others, with the comma before it
abbrev pub later_field : List ℕ → List ℕ
later_field field = 44 ∷ field

-- a number after others, with the comma before it
abbrev pub later_number : ℕ → List ℕ
later_number number = 44 ∷ decimal number

-- the text of a row: its fields joined by commas
abbrev pub row_text : List (List ℕ) → List ℕ
row_text [] = []
row_text (first ∷ fields) = first ++ flat_map later_field fields

-- a rating group after others, with the space before it
abbrev pub later_group : ℕ → List ℕ
later_group group = 32 ∷ decimal group

-- the text of rating groups: numbers with single spaces between them
abbrev pub groups_text : List ℕ → List ℕ
groups_text [] = []
groups_text (first ∷ groups) = decimal first ++ flat_map later_group groups

-- a row and the line feed after it
abbrev pub row_line : List (List ℕ) → List ℕ
row_line row = row_text row ++ 10 ∷ []

-- the text of rows: each with a line feed after it
abbrev pub rows_text : List (List (List ℕ)) → List ℕ
rows_text rows = flat_map row_line rows

-- ---- read

-- fields that are UTF-8
abbrev pub texts_of : List (List ℕ) → Option (List (List ℕ))
texts_of fields = if list_all is_utf8 fields then Some fields else None

-- the row that a text is: its fields stand between the commas
abbrev pub row_in : List ℕ → Option (List (List ℕ))
row_in text = texts_of (pieces 44 text)

-- a row before others
abbrev pub before_rows : Option (List (List ℕ)) → Option (List (List (List ℕ))) → Option (List (List (List ℕ)))
before_rows row rows = option_and_then (λ r. option_map (λ more. r ∷ more) rows) row

-- what stands after the last line feed is nothing
abbrev pub end_of_rows : List ℕ → Option (List (List (List ℕ)))
end_of_rows last = if nat_eq (length last) 0 then Some [] else None

-- the rows of lines, the last of which stands after the last line feed
abbrev pub rows_of : List (List ℕ) → Option (List (List (List ℕ)))
rows_of [] = None
rows_of (last ∷ []) = end_of_rows last
rows_of (line ∷ next ∷ lines) = before_rows (row_in line) (rows_of (next ∷ lines))

-- the rows that a text is, each with a line feed after it
abbrev pub rows_in : List ℕ → Option (List (List (List ℕ)))
rows_in text = rows_of (pieces 10 text)
