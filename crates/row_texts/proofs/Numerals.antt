-- Numbers as numerals.
use Rattle.std.proofs.Common.{◌≡◌, ℕ, zero, suc, ◌+◌, ◌-◌, ◌*◌, ◌/◌, ◌%◌, ◌<◌, ◌≤◌, ◌^◌, Bool, true, false, not, ◌&&◌, ◌==◌, nat_le, List, [], ◌∷◌, ◌++◌, length, get_or, Option, Some, None, refl, sym, ap, ◌∙◌, arith, decimal, if◌then◌else◌}
use Rattle.std.specs.List.{list_all}
use Rattle.std.specs.Char.{is_ascii_digit}
use Rattle.std.specs.Str.Parse.{digits_value}
use Rattle.std.proofs.lemmas.Fmt.{decimal_by_steps_wide, decimal_digit, decimal_is_IsNumeral_wide, decimal-digits_value}
use Rattle.std.proofs.lemmas.Str.Parse.{IsDigitsTest, IsNumeralModel, numerals_by_value}
use Rattle.std.proofs.lemmas.Bool.{and_parts, cases_Bool}
use Rattle.std.proofs.lemmas.Bool.Decides.{nat_tests}
use Rattle.std.proofs.lemmas.Option.{cond_some}
use Rattle.std.proofs.Common.{rules}
use Rattle.rows.specs.Number.{is_numeral, number_of}

-- digits, the first of which is no zero unless the number is zero
pub record IsShortest (n : ℕ) (text : List ℕ) : Type 0 where
  pub digits : list_all is_ascii_digit text ≡ true
  pub some : 0 < length text
  pub first : 1 ≤ n → (get_or text 0 0 == 48) ≡ false

one_digit : (n : ℕ) → n < 10 → IsShortest n ((48 + n) ∷ [])
one_digit n h = record { digits = grind (arith, nat_tests); some = omega arith; first = λ low. grind (arith, nat_tests, low) }

digits_more : (text : List ℕ) (d : ℕ) → d < 10 → list_all is_ascii_digit text ≡ true → list_all is_ascii_digit (text ++ (48 + d) ∷ []) ≡ true
digits_more [] d h all = grind (arith, nat_tests)
digits_more (b ∷ text) d h all = let both = and_parts (is_ascii_digit b) (list_all is_ascii_digit text) all in rw (both.0, digits_more text d h both.1) refl

first_more : (text rest : List ℕ) → 0 < length text → get_or (text ++ rest) 0 0 ≡ get_or text 0 0
first_more [] rest h = absurd (omega arith)
first_more (b ∷ text) rest h = refl

length_more : (text rest : List ℕ) → 0 < length text → 0 < length (text ++ rest)
length_more [] rest h = absurd (omega arith)
length_more (b ∷ text) rest h = omega arith

one_more_digit : (n : ℕ) (text : List ℕ) → 10 ≤ n → IsShortest (n / 10) text → IsShortest n (text ++ ((48 + n % 10) ∷ []))
one_more_digit n text big h = record {
  digits = digits_more text (n % 10) (omega arith) h.digits;
  some = length_more text _ h.some;
  first = λ low. ap (λ b. b == 48) (first_more text _ h.some) ∙ h.first (omega arith);
}

pub shortest : (n : ℕ) → n < 10 ^ 64 → IsShortest n (decimal n)
shortest = decimal_by_steps_wide IsShortest one_digit one_more_digit

numeral_of : (n : ℕ) (text : List ℕ) → 1 ≤ n → IsShortest n text → is_numeral text ≡ true
numeral_of n [] low h = absurd (omega (arith, h.some))
numeral_of n (b ∷ []) low h = h.digits
numeral_of n (b ∷ c ∷ rest) low h = rw (h.first low, h.digits) refl

decimal_numeral : (n : ℕ) → n < 10 ^ 64 → is_numeral (decimal n) ≡ true
decimal_numeral zero fits = ap is_numeral (decimal_digit 0 (omega arith))
decimal_numeral (suc n) fits = numeral_of (suc n) (decimal (suc n)) (omega arith) (shortest (suc n) fits)

-- a number reads back
pub number_back : (most n : ℕ) → n ≤ most → n < 10 ^ 64 → number_of most (decimal n) ≡ Some n
number_back most n high fits =
    let numeral = decimal_numeral n fits in
    let value = (decimal_is_IsNumeral_wide n fits).1 in
    let test : nat_le n most ≡ true = grind (arith, nat_tests, high) in
    rw (numeral, value, test) refl

-- ---- one spelling

digits_of_numeral : (text : List ℕ) → is_numeral text ≡ true → list_all is_ascii_digit text ≡ true
digits_of_numeral [] h = refl
digits_of_numeral (b ∷ []) h = h
digits_of_numeral (b ∷ c ∷ rest) h = (and_parts (not (b == 48)) (list_all is_ascii_digit (b ∷ c ∷ rest)) h).1

-- the parts of a number that was read
pub record IsRead (most n : ℕ) (text : List ℕ) : Type 0 where
  pub numeral : is_numeral text ≡ true
  pub digits : list_all is_ascii_digit text ≡ true
  pub value : digits_value 10 text ≡ n
  pub within : n ≤ most

pub read_parts : (most n : ℕ) (text : List ℕ) → number_of most text ≡ Some n → IsRead most n text
read_parts most n text h =
    let parts = cond_some (is_numeral text && nat_le (digits_value 10 text) most) (digits_value 10 text) n h in
    let both = and_parts (is_numeral text) (nat_le (digits_value 10 text) most) parts.0 in
    record { numeral = both.0; digits = digits_of_numeral text both.0; value = parts.1; within = grind (arith, nat_tests, both.1, parts.1) }

some_digit : (text : List ℕ) → is_numeral text ≡ true → 0 < length text
some_digit [] h = absurd (cc)
some_digit (b ∷ text) h = omega arith

zero_alone : (text : List ℕ) → is_numeral text ≡ true → get_or text 0 0 ≡ 48 → length text ≡ 1
zero_alone [] h first = absurd (cc)
zero_alone (b ∷ []) h first = refl
zero_alone (b ∷ c ∷ rest) h first =
    let no = (and_parts (not (b == 48)) (list_all is_ascii_digit (b ∷ c ∷ rest)) h).0 in
    absurd (grind (arith, nat_tests, no, first))

are_numerals : IsNumeralModel (λ ds. list_all is_ascii_digit ds ≡ true) (digits_value 10)
are_numerals = numerals_by_value (λ ds. list_all is_ascii_digit ds ≡ true) (search rules)

pub number_once : (most n : ℕ) (text : List ℕ) → most < 2 ^ 64 → number_of most text ≡ Some n → decimal n ≡ text
number_once most n text small h =
    let parts = read_parts most n text h in
    ap decimal (sym parts.value) ∙ decimal-digits_value are_numerals text parts.digits (some_digit text parts.numeral) (zero_alone text parts.numeral) (omega (arith, parts.value, parts.within))
