-- Lists in ascending order of a number that each element has (this product's own).
use Rattle.std.specs.Prelude.{ℕ, ◌==◌, nat_le, List, [], ◌∷◌, if◌then◌else◌, fold}

-- one more at its place, which is after those of its own number
abbrev pub put_in_order : {X : Type 0} → (X → ℕ) → List X → X → List X
put_in_order number [] x = x ∷ []
put_in_order number (y ∷ ys) x = if nat_le (number y) (number x) then y ∷ put_in_order number ys x else x ∷ y ∷ ys

-- so each of some more, one after another
abbrev pub all_put : {X : Type 0} → (X → ℕ) → List X → List X → List X
all_put number xs more = fold (put_in_order number) xs more

-- without the first one of a number, where there is one
abbrev pub without_first : {X : Type 0} → (X → ℕ) → List X → ℕ → List X
without_first number [] n = []
without_first number (y ∷ ys) n = if number y == n then ys else y ∷ without_first number ys n
