-- The sessions of a book that begin one after another.
use Rattle.std.specs.Prelude.{◌≡◌, ℕ, ◌+◌, ⊤, List, [], ◌∷◌}
use Rattle.records.specs.Book.{Session}

-- The sessions have the numbers from this one on (this product's own).
abbrev pub AreNumbered : ℕ → List Session → Type 0
AreNumbered n [] = ⊤
AreNumbered n (z ∷ zs) = (z.number ≡ n) × AreNumbered (n + 1) zs
