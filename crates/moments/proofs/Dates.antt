-- Dates and ranges, as tests and as facts.
use Rattle.std.proofs.Common.{◌≡◌, ◌≤◌, ℕ, true, false, Option, Some, None, IsSome, IfSome, ◌↔◌, nat_le, refl, sym, ◌∙◌, ap, arith, ℤ, pos, negsuc, ◌-ℤ◌, ◌+◌, ◌≢◌, inl, inr}
use Rattle.std.proofs.lemmas.Bool.Decides.{nat_tests}
use Rattle.std.proofs.lemmas.Bool.{cases_Bool, cases_lt}
use Rattle.jiff.specs.Words.{IsDate}
use Rattle.jiff_core.specs.Calendar.{days_in_month, IsCivilDate, days_from_civil}
use Rattle.jiff_core.proofs.SignedLemmas.{signed_arith}
use Rattle.moments.specs.Calendar.{is_date, in_range, day_of}

pub date_passes : (y m d : ℕ) → IsDate (pos y) (pos m) (pos d) → is_date y m d ≡ true
date_passes y m d h =
    let a : 1 ≤ m = omega (arith, signed_arith, h.1.0) in
    let b : m ≤ 12 = omega (arith, signed_arith, h.1.1) in
    let e : 1 ≤ d = omega (arith, signed_arith, h.2.0) in
    let f : d ≤ days_in_month (pos y) m = omega (arith, signed_arith, h.2.1) in
    grind (arith, nat_tests, a, b, e, f)

pub date_is : (y m d : ℕ) → y ≤ 9999 → is_date y m d ≡ true → IsDate (pos y) (pos m) (pos d)
date_is y m d h t =
    let a : 1 ≤ m = grind (arith, nat_tests, t) in
    let b : m ≤ 12 = grind (arith, nat_tests, t) in
    let e : 1 ≤ d = grind (arith, nat_tests, t) in
    let f : d ≤ days_in_month (pos y) m = grind (arith, nat_tests, t) in
    ((omega (arith, signed_arith), omega (arith, signed_arith)), (omega (arith, signed_arith), omega (arith, signed_arith)), (omega (arith, signed_arith), omega (arith, signed_arith)))

pub civil_passes : (y m d : ℕ) → IsCivilDate (pos y) m d → is_date y m d ≡ true
civil_passes y m d h =
    let a : 1 ≤ m = h.1.0 in
    let b : m ≤ 12 = h.1.1 in
    let e : 1 ≤ d = h.2.0 in
    let f : d ≤ days_in_month (pos y) m = h.2.1 in
    grind (arith, nat_tests, a, b, e, f)

pub day_found : (r : Option ℤ) (y m d : ℕ) → y ≤ 9999 → IsSome r ↔ IsDate (pos y) (pos m) (pos d) → IfSome r (λ n. n ≡ days_from_civil (pos y) m d) → r ≡ day_of y m d
day_found (Some n) y m d small there value = let test = date_passes y m d (there.0 refl) in rw (value, test) refl
day_found None y m d small there value = elim (cases_Bool (is_date y m d)) [
  | inl passes ↦ let here : IsSome {T = ℤ} None = there.1 (date_is y m d small passes) in cc
  | inr fails ↦ rw fails refl
]

out_of_range : (z : ℤ) → ((m : ℕ) → m ≤ 3155759999 → z ≢ pos m) → None ≡ in_range z
out_of_range (pos n) none = elim (cases_lt 3155759999 n) [
  | inl above ↦ let test : nat_le n 3155759999 ≡ false = grind (arith, nat_tests, above) in rw test refl
  | inr within ↦ absurd (none n within refl)
]
out_of_range (negsuc n) none = refl

pub within_range : (m : ℕ) → m ≤ 3155759999 → Some m ≡ in_range (pos m)
within_range m h = let test : nat_le m 3155759999 ≡ true = grind (arith, nat_tests, h) in rw test refl

pub none_in_range : (z : ℤ) (ahead : ℕ) → ((m : ℕ) → m ≤ 3155759999 → z ≢ pos (m + ahead)) → None ≡ in_range (z -ℤ pos ahead)
none_in_range z ahead none = out_of_range (z -ℤ pos ahead) (λ m h e. none m h (omega (arith, signed_arith, e)))

pub some_in_range : (z : ℤ) (ahead m : ℕ) → m ≤ 3155759999 → z ≡ pos (m + ahead) → Some m ≡ in_range (z -ℤ pos ahead)
some_in_range z ahead m h e = let is : z -ℤ pos ahead ≡ pos m = omega (arith, signed_arith, e) in within_range m h ∙ ap in_range (sym is)

-- a moment made of seconds in range
pub made : (r : Option ℕ) (n : ℕ) → n ≤ 3155759999 → IsSome r ↔ (n ≤ 3155759999) → IfSome r (λ m. m ≡ n) → r ≡ Some n
made (Some m) n h there value = ap Some value
made None n h there value = let here : IsSome {T = ℕ} None = there.1 h in cc
