-- The items of an input: the rows of `operator`, the lines of `answer` (this product's own).
use Rattle.std.specs.Prelude.{ℕ, ◌+◌, ◌&&◌, nat_lt, nat_le, bytes_eq, Bool, List, [], ◌∷◌, length, take, drop, map, Option, Some, None, if◌then◌else◌, codes}
use Rattle.std.specs.Str.{is_utf8}
use Rattle.std.specs.List.{list_all}
use Rattle.csv.specs.Reading.{default_config, records, strip_bom}
use Rattle.rows.specs.Pieces.{piece_length, pieces}
use Rattle.chf_messages.specs.declared.method.Method.{Method}
use Rattle.chf_messages.specs.declared.method.Method.TheVariants.{Post, Put, Delete}
use Rattle.charging.specs.declared.item.Item.{Item}
use Rattle.charging.specs.declared.item.Item.TheVariants.{Blank, Row, Message, Bad}

-- the rows of a text, as `csv` reads them with its defaults (RFC 4180 in the csv crate's profile)
abbrev pub rows_in : List ℕ → List (List (List ℕ))
rows_in text = records default_config (strip_bom text)

-- a row; one with a field that is no UTF-8 is bad
abbrev pub row_item : List (List ℕ) → Item
row_item fields = if list_all is_utf8 fields then Row fields else Bad

-- the items of `operator`: the rows of its input
abbrev pub operator_items : List ℕ → List Item
operator_items bytes = map row_item (rows_in bytes)

-- a line that is no message is one row
abbrev pub only_row : List (List (List ℕ)) → Item
only_row [] = Bad
only_row (row ∷ []) = row_item row
only_row (row ∷ more ∷ rows) = Bad

-- the word that a message line of a method begins with, and its space
abbrev pub method_word : Method → List ℕ
method_word Post = codes "POST "
method_word Put = codes "PUT "
method_word Delete = codes "DELETE "

-- whether a text begins with a word
abbrev pub begins_with : List ℕ → List ℕ → Bool
begins_with text word = bytes_eq (take (length word) text) word

-- the method of a message line; any other line has none
abbrev pub method_of : List ℕ → Option Method
method_of line =
    if begins_with line (method_word Post) then Some Post else
    (if begins_with line (method_word Put) then Some Put else
    (if begins_with line (method_word Delete) then Some Delete else None))

-- a path has a byte at least and is UTF-8, a body has at most 1,048,576 bytes
abbrev pub message_item : Method → List ℕ → List ℕ → Item
message_item method path body = if nat_lt 0 (length path) && (is_utf8 path && nat_le (length body) 1048576) then Message method path body else Bad

-- what follows a message line's method: the path up to the first space, and the body, which is all after it
abbrev pub message_of : Method → List ℕ → Item
message_of method text = message_item method (take (piece_length 32 text) text) (drop (piece_length 32 text + 1) text)

-- a line by the method that it begins with
abbrev pub line_by : Option Method → List ℕ → Item
line_by None line = only_row (rows_in line)
line_by (Some method) line = message_of method (drop (length (method_word method)) line)

-- a line: empty, a message, or one row
abbrev pub line_item : List ℕ → Item
line_item [] = Blank
line_item (byte ∷ line) = line_by (method_of (byte ∷ line)) (byte ∷ line)

-- the items of `answer`: the lines of its input, which line feeds end; the last may lack it, and then nothing follows it
abbrev pub answer_items : List ℕ → List Item
answer_items bytes = map line_item (pieces 10 bytes)
