-- The fields that rows of several kinds have (this product's own).
use Rattle.std.specs.Prelude.{ℕ, ◌+◌, ◌-◌, ◌^◌, List, [], ◌∷◌, length, sum_by, Option, Some, None, if◌then◌else◌, option_and_then, option_map}
use Rattle.rows.specs.Number.{number_of}
use Rattle.rows.specs.Pieces.{pieces}
use Rattle.units.specs.Names.{spells_name}

-- a name
abbrev pub name_of : List ℕ → Option (List ℕ)
name_of field = if spells_name field then Some field else None

-- rating groups, each a number
abbrev pub groups_in : List (List ℕ) → Option (List ℕ)
groups_in [] = Some []
groups_in (piece ∷ pieces) = option_and_then (λ group. option_map (λ groups. group ∷ groups) (groups_in pieces)) (number_of (2 ^ 32 - 1) piece)

-- rating groups separated by single spaces; there may be none, and one may repeat
abbrev pub groups_of : List ℕ → Option (List ℕ)
groups_of [] = Some []
groups_of (byte ∷ field) = groups_in (pieces 32 (byte ∷ field))

-- the bytes of a row: each field and the comma or line feed after it
abbrev pub row_size : List (List ℕ) → ℕ
row_size fields = sum_by length fields + length fields
