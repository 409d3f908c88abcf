-- The rows of a text, line by line.
use Rattle.std.proofs.Common.{◌≡◌, ◌==◌, ◌<◌, ◌≤◌, ◌+◌, ℕ, Bool, true, false, List, [], ◌∷◌, ◌++◌, length, take, drop, refl, sym, ap, ◌∙◌, Option, Some, None, option_map, if◌then◌else◌, append-nil, append_assoc, take_all}
use Rattle.rows.specs.Pieces.{joined_front, pieces}
use Rattle.row_texts.specs.RowTexts.{before_rows, end_of_rows, row_in, rows_of}

-- some rows before those that follow, where these are rows
abbrev pub more_rows : List (List (List ℕ)) → Option (List (List (List ℕ))) → Option (List (List (List ℕ)))
more_rows rows rest = option_map (λ more. rows ++ more) rest

-- the line before the first line feed, and the last line
abbrev pub FirstLine : List ℕ → ℕ → Type 0
FirstLine text n = n < length text → pieces 10 text ≡ take n text ∷ pieces 10 (drop (n + 1) text)

abbrev pub LastLine : List ℕ → ℕ → Type 0
LastLine text n = length text ≤ n → pieces 10 text ≡ take n text ∷ []

-- a text has a piece at least
abbrev HasPieces : List (List ℕ) → Type 0
HasPieces pieces = (first : List ℕ) × (rest : List (List ℕ)) × (pieces ≡ first ∷ rest)

pub has_pieces : (separator : ℕ) (text : List ℕ) → HasPieces (pieces separator text)
has_pieces separator [] = ([], [], refl)
has_pieces separator (b ∷ t) = by (b == separator) (has_pieces separator t)
  where
    by : (v : Bool) → HasPieces (pieces separator t) → HasPieces (if v then [] ∷ pieces separator t else joined_front b (pieces separator t))
    by true more = ([], pieces separator t, refl)
    by false more = (b ∷ more.0, more.1, ap (joined_front b) more.2)

-- a line, and those after it
pub next_line : (text : List ℕ) (n : ℕ) → FirstLine text n → n < length text → rows_of (pieces 10 text) ≡ before_rows (row_in (take n text)) (rows_of (pieces 10 (drop (n + 1) text)))
next_line text n first less =
    let some = has_pieces 10 (drop (n + 1) text) in
    ap rows_of (first less) ∙ ap (λ k. rows_of (take n text ∷ k)) some.2 ∙ ap (λ k. before_rows (row_in (take n text)) (rows_of k)) (sym some.2)

-- what stands after the last line feed
pub last_line : (text : List ℕ) (n : ℕ) → LastLine text n → length text ≤ n → rows_of (pieces 10 text) ≡ end_of_rows text
last_line text n last most = ap rows_of (last most) ∙ ap end_of_rows (take_all n text most)

-- the end after some rows
ended_rows : (rows : List (List (List ℕ))) (b : Bool) → (if b then Some rows else None) ≡ more_rows rows (if b then Some [] else None)
ended_rows rows true = ap Some (sym (append-nil rows))
ended_rows rows false = refl

pub at_end : (whole text : List ℕ) (n : ℕ) (rows : List (List (List ℕ))) → LastLine text n → length text ≤ n → rows_of (pieces 10 whole) ≡ more_rows rows (rows_of (pieces 10 text))
    → (if length text == 0 then Some rows else None) ≡ rows_of (pieces 10 whole)
at_end whole text n rows last most so_far = ended_rows rows (length text == 0) ∙ sym (so_far ∙ ap (more_rows rows) (last_line text n last most))

-- a line that is no row
pub no_row : (whole text : List ℕ) (n : ℕ) (rows : List (List (List ℕ))) → FirstLine text n → n < length text → rows_of (pieces 10 whole) ≡ more_rows rows (rows_of (pieces 10 text)) → row_in (take n text) ≡ None
    → None ≡ rows_of (pieces 10 whole)
no_row whole text n rows first less so_far none = sym (so_far ∙ ap (more_rows rows) (next_line text n first less) ∙ ap (λ r. more_rows rows (before_rows r (rows_of (pieces 10 (drop (n + 1) text))))) none)

-- one that is goes on
one_row : (rows : List (List (List ℕ))) (row : List (List ℕ)) (rest : Option (List (List (List ℕ)))) → more_rows rows (before_rows (Some row) rest) ≡ more_rows (rows ++ row ∷ []) rest
one_row rows row None = refl
one_row rows row (Some more) = ap Some (sym (append_assoc rows (row ∷ []) more))

pub goes_on : (whole text : List ℕ) (n : ℕ) (rows : List (List (List ℕ))) (row : List (List ℕ)) → FirstLine text n → n < length text → rows_of (pieces 10 whole) ≡ more_rows rows (rows_of (pieces 10 text)) → row_in (take n text) ≡ Some row
    → rows_of (pieces 10 whole) ≡ more_rows (rows ++ row ∷ []) (rows_of (pieces 10 (drop (n + 1) text)))
goes_on whole text n rows row first less so_far some =
    so_far ∙ ap (more_rows rows) (next_line text n first less) ∙ ap (λ r. more_rows rows (before_rows r (rows_of (pieces 10 (drop (n + 1) text))))) some ∙ one_row rows row (rows_of (pieces 10 (drop (n + 1) text)))
