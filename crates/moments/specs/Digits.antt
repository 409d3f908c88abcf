-- Two digits of a text.
use Rattle.std.specs.Prelude.{ℕ, ◌+◌, ◌-◌, ◌*◌, ◌/◌, ◌%◌, ◌&&◌, nat_lt, if◌then◌else◌, List, [], ◌∷◌, length, slice_index, Option, Some, None}
use Rattle.std.specs.Char.{is_ascii_digit}

-- the number that the two digits at a place of the text write
abbrev pub two_at : List ℕ → ℕ → Option ℕ
two_at text at =
    if nat_lt (at + 1) (length text) && is_ascii_digit (slice_index text at) && is_ascii_digit (slice_index text (at + 1))
    then Some ((slice_index text at - 48) * 10 + (slice_index text (at + 1) - 48)) else None

-- the two digits that write a number
abbrev pub two_digits : ℕ → List ℕ
two_digits n = (48 + n / 10) ∷ (48 + n % 10) ∷ []
