-- What the definitions find at a moment is a date with its clock.
use Rattle.std.proofs.Common.{◌≡◌, ◌≤◌, ◌<◌, ◌+◌, ◌*◌, ◌/◌, ◌%◌, ℕ, zero, suc, Bool, true, false, min, refl, sym, ◌∙◌, ap, arith, Some, pos, ◌+ℤ◌, ◌-ℤ◌, ◌*ℤ◌, inl, inr}
use Rattle.std.proofs.lemmas.Bool.Decides.{nat_tests}
use Rattle.std.proofs.lemmas.Bool.{cases_Bool, cases_lt}
use Rattle.jiff_core.proofs.SignedLemmas.{signed_arith}
use Rattle.jiff_core.proofs.CalendarLemmas.{days_from_civil-day_count, day_count-day, day_count-epoch, day_count-next_year, day_count-next_month, day_count-last_of_year, days_in_month_bounds, days_in_year_bounds}
use Rattle.jiff_core.proofs.MarchLemmas.{day_count-early}
use Rattle.jiff_core.specs.Calendar.{day_count, days_from_civil, days_in_month, days_in_year}
use Rattle.moments.proofs.Dates.{within_range}
use Rattle.moments.proofs.Shown.{below_next}
use Rattle.moments.specs.Calendar.{last_that, is_reached, is_date, is_clock, in_range, moment_of, year_at, month_at, day_at, shown_at, IsZulu}

last_holds : (test : ℕ → Bool) (n k : ℕ) → 1 ≤ k → k ≤ n → test k ≡ true → (test (last_that test n) ≡ true) × (k ≤ last_that test n)
last_holds test zero k low high passes = absurd (omega arith)
last_holds test (suc n) k low high passes = elim (cases_Bool (test (suc n))) [
  | inl here ↦ rw here (here, high)
  | inr fails ↦ rw fails (last_holds test n k low (below_next test n k high passes fails) passes)
]

last_within : (test : ℕ → Bool) (n : ℕ) → last_that test n ≤ n
last_within test zero = omega arith
last_within test (suc n) = elim (cases_Bool (test (suc n))) [
  | inl here ↦ rw here (omega arith)
  | inr fails ↦ rw fails (let rest = last_within test n in omega arith)
]

last_next : (test : ℕ → Bool) (n : ℕ) → last_that test n < n → test (last_that test n + 1) ≡ false
last_next test zero below = absurd (omega arith)
last_next test (suc n) below = elim (cases_Bool (test (suc n))) [
  | inl here ↦ let same : last_that test (suc n) ≡ suc n = rw here refl in absurd (omega arith)
  | inr fails ↦ rw fails (elim (cases_lt (last_that test n) n) [
    | inl lt ↦ last_next test n lt
    | inr ge ↦ let same : last_that test n + 1 ≡ suc n = omega (arith, last_within test n) in ap test same ∙ fails
  ])
]

reached_is : (days y m d : ℕ) → is_reached days y m d ≡ true → day_count (pos y) m d ≤ days + 4371953
reached_is days y m d h = let test = rw day_count-epoch at h in grind (arith, nat_tests, test)

not_reached_is : (days y m d : ℕ) → is_reached days y m d ≡ false → days + 4371953 < day_count (pos y) m d
not_reached_is days y m d h = let test = rw day_count-epoch at h in grind (arith, nat_tests, test)

is_reached_from : (days y m d : ℕ) → day_count (pos y) m d ≤ days + 4371953 → is_reached days y m d ≡ true
is_reached_from days y m d h = rw day_count-epoch (grind (arith, nat_tests, h))

-- the year of a day
record IsYearOf (days y : ℕ) : Type 0 where
  from : 1970 ≤ y
  until : y ≤ 2069
  began : day_count (pos y) 1 1 ≤ days + 4371953
  ends : days + 4371953 < day_count (pos y) 1 1 + days_in_year (pos y)

last_year : day_count (pos 2069) 1 1 ≡ 4408113
last_year = day_count-early (pos 2069) 12068 1 1 refl (omega arith) (omega arith) (omega arith)

year_ends : (days y : ℕ) → days ≤ 36524 → y ≤ 2069 → (y < 2069 → is_reached days (y + 1) 1 1 ≡ false) → days + 4371953 < day_count (pos y) 1 1 + days_in_year (pos y)
year_ends days y few until next = elim (cases_lt y 2069) [
  | inl lt ↦ omega (arith, not_reached_is days (y + 1) 1 1 (next lt), day_count-next_year (pos y) (pos (y + 1)) (omega (arith, signed_arith)) (omega (arith, signed_arith)))
  | inr ge ↦ let same : y ≡ 2069 = omega arith in rw same (omega (arith, last_year, days_in_year_bounds (pos 2069)))
]

year_found : (days : ℕ) → days ≤ 36524 → IsYearOf days (year_at days)
year_found days few =
    let test = λ (year : ℕ). is_reached days year 1 1 in
    let holds = last_holds test 2069 1970 (omega arith) (omega arith) (is_reached_from days 1970 1 1 (rw day_count-epoch (omega arith))) in
    let within = last_within test 2069 in
    record {
      from = holds.1;
      until = within;
      began = reached_is days (year_at days) 1 1 holds.0;
      ends = year_ends days (year_at days) few within (last_next test 2069);
    }

-- its month
record IsMonthOf (days y m : ℕ) : Type 0 where
  from : 1 ≤ m
  until : m ≤ 12
  began : day_count (pos y) m 1 ≤ days + 4371953
  ends : days + 4371953 < day_count (pos y) m 1 + days_in_month (pos y) m

month_ends : (days y m : ℕ) → IsYearOf days y → 1 ≤ m → m ≤ 12 → (m < 12 → is_reached days y (m + 1) 1 ≡ false) → days + 4371953 < day_count (pos y) m 1 + days_in_month (pos y) m
month_ends days y m year from until next = elim (cases_lt m 12) [
  | inl lt ↦ omega (arith, not_reached_is days y (m + 1) 1 (next lt), day_count-next_month (pos y) m from)
  | inr ge ↦ let same : m ≡ 12 = omega arith in rw same (omega (arith, year.ends, day_count-last_of_year (pos y), day_count-day (pos y) 12 31 1 (omega arith) (omega arith)))
]

month_found : (days y : ℕ) → IsYearOf days y → IsMonthOf days y (last_that (λ month. is_reached days y month 1) 12)
month_found days y year =
    let test = λ (month : ℕ). is_reached days y month 1 in
    let holds = last_holds test 12 1 (omega arith) (omega arith) (is_reached_from days y 1 1 year.began) in
    let within = last_within test 12 in
    record {
      from = holds.1;
      until = within;
      began = reached_is days y (last_that test 12) 1 holds.0;
      ends = month_ends days y (last_that test 12) year holds.1 within (last_next test 12);
    }

-- its day
record IsDayOf (days y m d : ℕ) : Type 0 where
  from : 1 ≤ d
  until : d ≤ days_in_month (pos y) m
  count : day_count (pos y) m d ≡ days + 4371953

day_count_is : (days y m d : ℕ) → IsMonthOf days y m → 1 ≤ d → d ≤ 31 → day_count (pos y) m d ≤ days + 4371953 → (d < 31 → is_reached days y m (d + 1) ≡ false) → IsDayOf days y m d
day_count_is days y m d month from until began next =
    let first = day_count-day (pos y) m d 1 from (omega arith) in
    let long = days_in_month_bounds (pos y) m in
    record {
      from = from;
      until = omega (arith, month.ends);
      count = elim (cases_lt d 31) [
        | inl lt ↦ omega (arith, not_reached_is days y m (d + 1) (next lt), day_count-day (pos y) m d (d + 1) from (omega arith))
        | inr ge ↦ omega (arith, month.ends)
      ];
    }

day_found : (days y m : ℕ) → IsMonthOf days y m → IsDayOf days y m (last_that (λ day. is_reached days y m day) 31)
day_found days y m month =
    let test = λ (day : ℕ). is_reached days y m day in
    let holds = last_holds test 31 1 (omega arith) (omega arith) (is_reached_from days y m 1 month.began) in
    day_count_is days y m (last_that test 31) month holds.1 (last_within test 31) (reached_is days y m (last_that test 31) holds.0) (last_next test 31)

date_found : (days : ℕ) → days ≤ 36524 → IsMonthOf days (year_at days) (month_at days) × IsDayOf days (year_at days) (month_at days) (day_at days)
date_found days few =
    let year = year_found days few in
    let month = month_found days (year_at days) year in
    (month, day_found days (year_at days) (month_at days) month)

pub zulu_at : (moment : ℕ) → moment ≤ 3155759999 → IsZulu (shown_at moment)
zulu_at moment range =
    let days = moment / 86_400 in
    let few : days ≤ 36524 = omega arith in
    let year = year_found days few in
    let date = date_found days few in
    record {
      from = year.from;
      until = year.until;
      month = date.0.until;
      day = omega (arith, date.1.until, days_in_month_bounds (pos (year_at days)) (month_at days));
      hour = omega arith;
      minute = omega arith;
      second = omega arith;
      ahead = refl;
      behind = refl;
    }

-- the seconds of a date and a clock of UTC
sum_of : (y m d h mi s moment : ℕ) → moment ≤ 3155759999 → is_date y m d ≡ true → is_clock h mi s ≡ true → s ≤ 59 → day_count (pos y) m d ≡ moment / 86_400 + 4371953 → h ≡ moment % 86_400 / 3600 → mi ≡ moment % 3600 / 60 → s ≡ moment % 60
    → moment_of (record { year = y; month = m; day = d; hour = h; minute = mi; second = s; ahead = 0; behind = 0 }) ≡ Some moment
sum_of y m d h mi s moment range date clock small count hours minutes seconds =
    let day : days_from_civil (pos y) m d ≡ pos (moment / 86_400) = omega (arith, signed_arith, count, days_from_civil-day_count (pos y) m d) in
    let whole : (days_from_civil (pos y) m d *ℤ pos 86_400 +ℤ pos (h * 3600 + mi * 60 + min s 59 + 0)) -ℤ pos 0 ≡ pos moment = omega (arith, signed_arith, day) in
    rw (date, clock) (ap in_range whole ∙ sym (within_range moment range))

date_test : (y m d : ℕ) → 1 ≤ m → m ≤ 12 → 1 ≤ d → d ≤ days_in_month (pos y) m → is_date y m d ≡ true
date_test y m d a b c e = grind (arith, nat_tests, a, b, c, e)

clock_test : (h mi s : ℕ) → h ≤ 23 → mi ≤ 59 → s ≤ 59 → is_clock h mi s ≡ true
clock_test h mi s a b c = grind (arith, nat_tests, a, b, c)

pub moment_at : (moment : ℕ) → moment ≤ 3155759999 → moment_of (shown_at moment) ≡ Some moment
moment_at moment range =
    let days = moment / 86_400 in
    let few : days ≤ 36524 = omega arith in
    let date = date_found days few in
    let h : moment % 86_400 / 3600 ≤ 23 = omega arith in
    let mi : moment % 3600 / 60 ≤ 59 = omega arith in
    let s : moment % 60 ≤ 59 = omega arith in
    let is_there = date_test (year_at days) (month_at days) (day_at days) date.0.from date.0.until date.1.from date.1.until in
    let clock = clock_test (moment % 86_400 / 3600) (moment % 3600 / 60) (moment % 60) h mi s in
    sum_of (year_at days) (month_at days) (day_at days) (moment % 86_400 / 3600) (moment % 3600 / 60) (moment % 60) moment range is_there clock s date.1.count refl refl refl
