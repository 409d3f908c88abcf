-- The rows over the marks (this product's own).
use Rattle.std.specs.Prelude.{◌≡◌, ℕ, ◌+◌, ◌*◌, ◌-◌, ◌/◌, ◌≤◌, if◌then◌else◌, List, [], ◌∷◌, ◌++◌, length, drop, replicate, slice_set, slice_index_or}
use Rattle.agenda.specs.declared.mark.Mark.{Mark}
use Rattle.agenda.specs.declared.mark.Search.{Search}
use Rattle.agenda.specs.Marks.{quiet, both, finds}

-- a mark for each two
abbrev pub halved : List Mark → List Mark
halved [] = []
halved (a ∷ []) = both a quiet ∷ []
halved (a ∷ b ∷ marks) = both a b ∷ halved marks

-- each row has a mark for each two of the one below, and the last has at most one
abbrev pub AreRows : List (List Mark) → Type 0
AreRows [] = Unit {0}
AreRows (row ∷ []) = length row ≤ 1
AreRows (row ∷ above ∷ rows) = (above ≡ halved row) × AreRows (above ∷ rows)

-- the row of the marks
abbrev pub first_row : List (List Mark) → List Mark
first_row [] = []
first_row (row ∷ rows) = row

-- the mark at the top
abbrev pub top : List (List Mark) → Mark
top [] = quiet
top (row ∷ []) = slice_index_or row 0 quiet
top (row ∷ above ∷ rows) = top (above ∷ rows)

-- the mark of the two at twice a place and behind it
abbrev pub pair_at : List Mark → ℕ → Mark
pair_at row at = both (slice_index_or row (2 * at) quiet) (slice_index_or row (2 * at + 1) quiet)

-- a mark set in each row
abbrev pub set_rows : List (List Mark) → ℕ → Mark → List (List Mark)
set_rows [] at m = []
set_rows (row ∷ rows) at m = slice_set row at m ∷ set_rows rows (at / 2) (pair_at (slice_set row at m) (at / 2))

-- the place, where its mark has what is searched for
abbrev pub child : Search → List Mark → ℕ → List ℕ
child search row at = if finds search (slice_index_or row at quiet) then at ∷ [] else []

-- the places with what is searched for, under those of the row above
abbrev pub spread : Search → List Mark → List ℕ → List ℕ
spread search row [] = []
spread search row (at ∷ above) = child search row (2 * at) ++ (child search row (2 * at + 1) ++ spread search row above)

-- the places with what is searched for in the first row, by the rows over it
abbrev pub found_in : Search → List (List Mark) → List ℕ
found_in search [] = 0 ∷ []
found_in search (row ∷ rows) = spread search row (found_in search rows)

-- the first of the places have marks, and the others nothing to find
pub record IsRoomy (rows : List (List Mark)) (count : ℕ) : Type 0 where
  pub over : AreRows rows
  pub within : count ≤ length (first_row rows)
  pub rest : drop count (first_row rows) ≡ replicate (length (first_row rows) - count) quiet

-- what is seen: the marks, and for how many more there is a place
pub record Marked : Type 0 where
  pub marks : List Mark
  pub room : ℕ
