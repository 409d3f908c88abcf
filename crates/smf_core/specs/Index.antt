-- The place of each session by its number: no public clause names these.
use Rattle.std.specs.Prelude.{◌≡◌, ℕ, ◌==◌, false, Option, Some, None, List, [], ◌∷◌}
use Rattle.std.specs.List.{list_any, position_from}

-- the place of the first that has the number
abbrev pub place_in : List ℕ → ℕ → Option ℕ
place_in numbers number = position_from (λ n. n == number) 0 numbers

-- and of one that may not be given
abbrev pub place_for : Option ℕ → List ℕ → Option ℕ
place_for None numbers = None
place_for (Some number) numbers = place_in numbers number

-- no two numbers are the same
abbrev pub AreApart : List ℕ → Type 0
AreApart [] = Unit {0}
AreApart (n ∷ numbers) = (list_any (λ m. m == n) numbers ≡ false) × AreApart numbers

-- what a table gives for each number is its place
pub record IsIndexed (table : ℕ → Option ℕ) (numbers : List ℕ) : Type 0 where
  pub found : (number : ℕ) → table number ≡ place_in numbers number
  pub apart : AreApart numbers

-- what is seen of it: the numbers, and for how many more there is a place
pub record Indexed : Type 0 where
  pub numbers : List ℕ
  pub room : ℕ
