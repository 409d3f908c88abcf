-- The value of digits, read from the front.
use Rattle.std.proofs.Common.{◌≡◌, ℕ, suc, zero, ◌+◌, ◌*◌, ◌-◌, ◌<◌, ◌≤◌, true, false, List, [], ◌∷◌, ◌++◌, length, take, drop, map, get_or, refl, ◌∙◌, ap, arith, nat_le, Some, None}
use Rattle.std.specs.Char.{is_ascii_digit, digit_value}
use Rattle.std.specs.List.{list_all}
use Rattle.std.specs.Int.Digits.{number_from_digits, number_from_digits_after}
use Rattle.std.specs.Str.Parse.{digits_value}
use Rattle.std.proofs.lemmas.Int.Digits.{digits_value_is, digits_value_more, number_after_append, number_after_ge}
use Rattle.std.proofs.lemmas.List.{take-append-drop, map-append}
use Rattle.std.proofs.lemmas.Bool.Decides.{nat_tests}
use Rattle.rows.specs.Number.{is_numeral, number_of}

-- what was read so far is no more than the whole
pub value_of_front : (bytes : List ℕ) (i : ℕ) → digits_value 10 (take i bytes) ≤ digits_value 10 bytes
value_of_front bytes i =
    let parts = digits_value_is 10 (take i bytes ++ drop i bytes) ∙ ap (number_from_digits 10) (map-append digit_value (take i bytes) (drop i bytes)) ∙ number_after_append 10 0 (map digit_value (take i bytes)) (map digit_value (drop i bytes)) in
    let whole = ap (digits_value 10) (take-append-drop i bytes) in
    let front = digits_value_is 10 (take i bytes) in
    let more = number_after_ge 10 (number_from_digits_after 10 0 (map digit_value (take i bytes))) (map digit_value (drop i bytes)) (omega arith) in
    omega (arith, parts, whole, front, more)

digit_at : (bytes : List ℕ) (i : ℕ) → list_all is_ascii_digit bytes ≡ true → i < length bytes → is_ascii_digit (get_or bytes i 0) ≡ true
digit_at [] i h l = absurd (omega arith)
digit_at (b ∷ bytes) zero h l = grind (arith, h)
digit_at (b ∷ bytes) (suc i) h l = digit_at bytes i (grind (arith, h)) (omega arith)

pub record Digit (b : ℕ) : Type 0 where
  pub low : 48 ≤ b
  pub high : b ≤ 57
  pub value : digit_value b ≡ b - 48

digit_facts : (b : ℕ) → is_ascii_digit b ≡ true → Digit b
digit_facts b h = record { low = grind (arith, nat_tests, h); high = grind (arith, nat_tests, h); value = grind (arith, nat_tests, h) }

-- a numeral is of digits
digits_of_numeral : (bytes : List ℕ) → is_numeral bytes ≡ true → list_all is_ascii_digit bytes ≡ true
digits_of_numeral [] h = refl
digits_of_numeral (b ∷ []) h = grind (arith, h)
digits_of_numeral (b ∷ c ∷ rest) h = grind (arith, h)

pub is_digit : (bytes : List ℕ) (i : ℕ) → is_numeral bytes ≡ true → i < length bytes → Digit (get_or bytes i 0)
is_digit bytes i h l = digit_facts (get_or bytes i 0) (digit_at bytes i (digits_of_numeral bytes h) l)

-- one digit more
pub value_more : (bytes : List ℕ) (i : ℕ) → is_numeral bytes ≡ true → i < length bytes → digits_value 10 (take (i + 1) bytes) ≡ digits_value 10 (take i bytes) * 10 + (get_or bytes i 0 - 48)
value_more bytes i h l = digits_value_more 10 bytes i l ∙ ap (λ k. digits_value 10 (take i bytes) * 10 + k) (is_digit bytes i h l).value

-- a number whose front is too large is too large
pub too_large : (limit most : ℕ) (bytes : List ℕ) (i : ℕ) → is_numeral bytes ≡ true → i < length bytes → most < limit → ¬ (digits_value 10 (take i bytes) * 10 + (get_or bytes i 0 - 48) < limit) → number_of most bytes ≡ None
too_large limit most bytes i h l fits big =
    let front = value_of_front bytes (i + 1) in
    let more = value_more bytes i h l in
    let over : most < digits_value 10 bytes = omega (arith, front, more, big) in
    let test : nat_le (digits_value 10 bytes) most ≡ false = grind (arith, nat_tests, over) in
    rw (h, test) refl

pub not_number : (most : ℕ) (bytes : List ℕ) → is_numeral bytes ≡ false → number_of most bytes ≡ None
not_number most bytes h = rw h refl

pub whole_number : (most value : ℕ) (bytes : List ℕ) → is_numeral bytes ≡ true → value ≡ digits_value 10 bytes → value ≤ most → number_of most bytes ≡ Some value
whole_number most value bytes h is le =
    let test : nat_le (digits_value 10 bytes) most ≡ true = grind (arith, nat_tests, is, le) in
    rw (h, test, is) refl

pub large_number : (most value : ℕ) (bytes : List ℕ) → is_numeral bytes ≡ true → value ≡ digits_value 10 bytes → most < value → number_of most bytes ≡ None
large_number most value bytes h is lt =
    let test : nat_le (digits_value 10 bytes) most ≡ false = grind (arith, nat_tests, is, lt) in
    rw (h, test) refl
