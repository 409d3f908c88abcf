-- Items that are taken one after the other (this product's own).
use Rattle.std.specs.Prelude.{ℕ, ◌≡◌, ◌+◌, length, List, [], ◌∷◌, map, Option, Some, None}
use Rattle.csv.specs.Reading.{default_config, records_from}
use Rattle.csv.specs.declared.parser.State.{State}
use Rattle.rows.specs.Pieces.{pieces}
use Rattle.charging.specs.declared.item.Item.{Item}
use Rattle.charging.specs.Items.{line_item, row_item}

-- what was found is the first of the items that were left; nothing is found where none was
abbrev pub HasTaken : Option Item → List Item → List Item → Type 0
HasTaken None before after = before ≡ []
HasTaken (Some item) before after = before ≡ item ∷ after

-- the items of the bytes that follow the lines so far; none after the last line
abbrev pub lines_left : Option (List ℕ) → List Item
lines_left None = []
lines_left (Some bytes) = map line_item (pieces 10 bytes)

-- the bytes that a reader of rows has left, none where that isn't known
abbrev pub bytes_left : Option (List ℕ) → List ℕ
bytes_left None = []
bytes_left (Some bytes) = bytes

-- the items of the bytes that a reader of rows has left, in the state that it is in
abbrev pub rows_left : State → List ℕ → List Item
rows_left state bytes = map row_item (records_from default_config (length bytes + 1) state bytes)
