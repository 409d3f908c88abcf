-- What a byte separates in a text (this product's own).
use Rattle.std.specs.Prelude.{ℕ, ◌+◌, ◌==◌, List, [], ◌∷◌, if◌then◌else◌}

-- a byte more at the front of the first piece
abbrev pub joined_front : ℕ → List (List ℕ) → List (List ℕ)
joined_front byte [] = (byte ∷ []) ∷ []
joined_front byte (piece ∷ pieces) = (byte ∷ piece) ∷ pieces

-- the pieces of a text between the separators: one more than there are separators
abbrev pub pieces : ℕ → List ℕ → List (List ℕ)
pieces separator [] = [] ∷ []
pieces separator (byte ∷ text) = if byte == separator then [] ∷ pieces separator text else joined_front byte (pieces separator text)

-- how many bytes stand before the first separator, all where there is none
abbrev pub piece_length : ℕ → List ℕ → ℕ
piece_length separator [] = 0
piece_length separator (byte ∷ text) = if byte == separator then 0 else piece_length separator text + 1
