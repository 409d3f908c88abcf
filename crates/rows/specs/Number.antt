-- How a number is written in a row or a word: decimal digits, without a sign and without a leading zero (this product's own).
use Rattle.std.specs.Prelude.{ℕ, ◌==◌, ◌&&◌, not, nat_le, Bool, false, List, [], ◌∷◌, Option, Some, None, if◌then◌else◌}
use Rattle.std.specs.Char.{is_ascii_digit}
use Rattle.std.specs.List.{list_all}
use Rattle.std.specs.Str.Parse.{digits_value}

-- some decimal digits, of which the first is no zero unless it stands alone
abbrev pub is_numeral : List ℕ → Bool
is_numeral [] = false
is_numeral (only ∷ []) = list_all is_ascii_digit (only ∷ [])
is_numeral (first ∷ second ∷ rest) = not (first == 48) && list_all is_ascii_digit (first ∷ second ∷ rest)

-- the number that a text stands for, where it is a numeral of at most `most`
abbrev pub number_of : ℕ → List ℕ → Option ℕ
number_of most bytes = if is_numeral bytes && nat_le (digits_value 10 bytes) most then Some (digits_value 10 bytes) else None
