-- A numeral that is accepted is in its range.
use Rattle.std.proofs.Common.{◌≡◌, ◌≤◌, ℕ, Bool, true, false, List, Some, None, ◌&&◌, nat_le, arith, refl, if◌then◌else◌}
use Rattle.std.proofs.lemmas.Bool.Decides.{nat_tests}
use Rattle.std.specs.Str.Parse.{digits_value}
use Rattle.rows.specs.Number.{is_numeral, number_of}

in_range : (a : Bool) (most value n : ℕ) → (if a && nat_le value most then Some value else None) ≡ Some n → n ≤ most
in_range true most value n e = by (nat_le value most) refl e
  where
    by : (b : Bool) → nat_le value most ≡ b → (if b then Some value else None) ≡ Some n → n ≤ most
    by true t e = let same : value ≡ n = cc in grind (arith, nat_tests, t, same)
    by false t e = cc
in_range false most value n e = cc

pub number_in_range : (most n : ℕ) (bytes : List ℕ) → number_of most bytes ≡ Some n → n ≤ most
number_in_range most n bytes e = in_range (is_numeral bytes) most (digits_value 10 bytes) n e

pub ruleset ranges = (number_in_range)
