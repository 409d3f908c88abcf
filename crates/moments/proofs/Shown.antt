-- What `jiff` shows is what the definitions find.
use Rattle.std.proofs.Common.{◌≡◌, ◌≤◌, ◌<◌, ◌+◌, ◌*◌, ◌/◌, ◌%◌, ℕ, zero, suc, Bool, true, false, refl, sym, ◌∙◌, ap, arith, ℤ, pos, negsuc, unsigned_abs, ◌+ℤ◌, ◌*ℤ◌, ◌≤ℤ◌, inl, inr}
use Rattle.std.proofs.lemmas.Bool.Decides.{nat_tests}
use Rattle.std.proofs.lemmas.Bool.{cases_Bool, cases_lt, both_ways}
use Rattle.std.proofs.lemmas.Int.{by_lt_z}
use Rattle.jiff_core.proofs.SignedLemmas.{signed_arith}
use Rattle.jiff_core.proofs.DateLemmas.{civil}
use Rattle.jiff_core.proofs.CalendarLemmas.{days_from_civil-day_count, day_count-lt_year, day_count-lt_month, day_count-day, day_count-day_of_year, day_count-later_year, day_count-epoch, days_in_month_bounds}
use Rattle.jiff_core.specs.Calendar.{day_count, IsCivilDate}
use Rattle.jiff_core.specs.Date.{epoch_day}
use Rattle.jiff_core.specs.DateTime.{civil_nanos}
use Rattle.jiff_core.specs.Time.{time_seconds}
use Rattle.jiff_core.specs.declared.civil.date.Date.{Date}
use Rattle.jiff_core.specs.declared.civil.datetime.DateTime.{DateTime}
use Rattle.moments.specs.declared.calendar.LocalTime.{LocalTime}
use Rattle.jiff_core.proofs.MarchLemmas.{day_count-early}
use Rattle.moments.specs.Text.{local_time}
use Rattle.moments.specs.Calendar.{last_that, is_reached, year_at, month_at, day_at, shown_at, IsShown}

-- whole seconds of an instant with no fraction
pub whole_seconds : (dt : DateTime) (n : ℤ) (m : ℕ) → civil_nanos dt ≡ n → n ≡ pos m *ℤ pos 1_000_000_000 → epoch_day dt.date *ℤ pos 86_400 +ℤ pos (time_seconds dt.time) ≡ pos m
unfolding civil_nanos
whole_seconds dt n m e f = let whole = e ∙ f in let fraction = dt.time.subsec_in in omega (arith, signed_arith)

pub day_of_moment : (dt : DateTime) (m : ℕ) → epoch_day dt.date *ℤ pos 86_400 +ℤ pos (time_seconds dt.time) ≡ pos m → pos 0 ≤ℤ epoch_day dt.date
day_of_moment dt m e =
    let hour = dt.time.hour_in in let minute = dt.time.minute_in in let second = dt.time.second_in in
    omega (arith, signed_arith)

-- a date from day 0 on is of 1970 or later
pub late_year : (d : Date) → pos 0 ≤ℤ epoch_day d → pos 1970 ≤ℤ d.year
late_year d h = by_lt_z d.year (pos 1970)
    (λ early. absurd (omega (arith, signed_arith, days_from_civil-day_count d.year d.month d.day, day_count-lt_year d.year d.month d.day (pos 1970) 1 1 (civil d) (omega arith) early, day_count-epoch)))
    (λ late. late)

later_passes : (test : ℕ → Bool) (n k : ℕ) → k ≤ suc n → test (suc n) ≡ true → ((j : ℕ) → k < j → test j ≡ false) → suc n ≡ k
later_passes test n k high passes later =
    elim (cases_lt k (suc n)) [ inl lt ↦ absurd (both_ways (test (suc n)) (later (suc n) lt) passes) | inr ge ↦ omega arith ]

pub below_next : (test : ℕ → Bool) (n k : ℕ) → k ≤ suc n → test k ≡ true → test (suc n) ≡ false → k ≤ n
below_next test n k high passes fails =
    elim (cases_lt k (suc n)) [ inl lt ↦ omega arith | inr ge ↦ let same : suc n ≡ k = omega arith in absurd (both_ways (test k) (ap test (sym same) ∙ fails) passes) ]

-- the last that passes is found
last_is : (test : ℕ → Bool) (n k : ℕ) → 1 ≤ k → k ≤ n → test k ≡ true → ((j : ℕ) → k < j → test j ≡ false) → last_that test n ≡ k
last_is test zero k low high passes later = absurd (omega arith)
last_is test (suc n) k low high passes later =
    elim (cases_Bool (test (suc n))) [
      | inl here ↦ rw here (later_passes test n k high here later)
      | inr fails ↦ rw fails (last_is test n k low (below_next test n k high passes fails) passes later)
    ]

reached : (days y m d : ℕ) → day_count (pos y) m d ≤ days + 4371953 → is_reached days y m d ≡ true
reached days y m d h = rw day_count-epoch (grind (arith, nat_tests, h))

not_reached : (days y m d : ℕ) → days + 4371953 < day_count (pos y) m d → is_reached days y m d ≡ false
not_reached days y m d h = rw day_count-epoch (grind (arith, nat_tests, h))

-- a date of this product's range, with its day number
pub record IsDay (days y m d : ℕ) : Type 0 where
  pub from : 1970 ≤ y
  pub until : y ≤ 2069
  pub date : IsCivilDate (pos y) m d
  pub count : day_count (pos y) m d ≡ days + 4371953

year_is : (days y m d : ℕ) → IsDay days y m d → year_at days ≡ y
year_is days y m d h = last_is (λ year. is_reached days year 1 1) 2069 y (omega (arith, h.from)) h.until
    (reached days y 1 1 (omega (arith, h.count, day_count-day_of_year (pos y) m d (omega (arith, h.date.2.0)))))
    (λ j lt. not_reached days j 1 1 (rw (← h.count) (day_count-lt_year (pos y) m d (pos j) 1 1 h.date (omega arith) (omega (arith, signed_arith)))))

month_is : (days y m d : ℕ) → IsDay days y m d → month_at days ≡ m
month_is days y m d h = ap (λ year. last_that (λ month. is_reached days year month 1) 12) (year_is days y m d h) ∙ (last_is (λ month. is_reached days y month 1) 12 m (omega (arith, h.date.1.0)) (omega (arith, h.date.1.1))
    (reached days y m 1 (omega (arith, h.count, day_count-day (pos y) m d 1 (omega (arith, h.date.2.0)) (omega arith))))
    (λ j lt. not_reached days y j 1 (rw (← h.count) (day_count-lt_month (pos y) m d j 1 h.date (omega arith) lt))))

day_at_is : (days y m d : ℕ) → IsDay days y m d → last_that (λ day. is_reached days y m day) 31 ≡ d
day_at_is days y m d h = last_is (λ day. is_reached days y m day) 31 d (omega (arith, h.date.2.0)) (omega (arith, h.date.2.1, days_in_month_bounds (pos y) m))
    (reached days y m d (omega (arith, h.count)))
    (λ j lt. not_reached days y m j (omega (arith, h.count, day_count-day (pos y) m d j (omega (arith, h.date.2.0)) (omega arith))))

day_is : (days y m d : ℕ) → IsDay days y m d → day_at days ≡ d
day_is days y m d h =
    ap (λ year. last_that (λ day. is_reached days year (month_at days) day) 31) (year_is days y m d h)
    ∙ ap (λ month. last_that (λ day. is_reached days y month day) 31) (month_is days y m d h)
    ∙ day_at_is days y m d h

same_parts : (make : ℕ → ℕ → ℕ → ℕ → ℕ → ℕ → ℕ → ℕ → LocalTime) (y a b m d h mi s y2 a2 b2 m2 d2 h2 mi2 s2 : ℕ) → y ≡ y2 → a ≡ a2 → b ≡ b2 → m ≡ m2 → d ≡ d2 → h ≡ h2 → mi ≡ mi2 → s ≡ s2 → make y a b m d h mi s ≡ make y2 a2 b2 m2 d2 h2 mi2 s2
same_parts make y a b m d h mi s y2 a2 b2 m2 d2 h2 mi2 s2 e1 e2 e3 e4 e5 e6 e7 e8 = cc

-- the day and the clock of a moment
pub record IsSplit (dt : DateTime) (m : ℕ) : Type 0 where
  pub day : IsDay (m / 86_400) (unsigned_abs dt.date.year) dt.date.month dt.date.day
  pub hour : dt.time.hour ≡ m % 86_400 / 3600
  pub minute : dt.time.minute ≡ m % 3600 / 60
  pub second : dt.time.second ≡ m % 60

year_positive : (z : ℤ) → pos 1970 ≤ℤ z → pos (unsigned_abs z) ≡ z
year_positive (pos n) h = refl
year_positive (negsuc n) h = absurd (omega (arith, signed_arith))

early_year : (d : Date) (days : ℕ) → days ≤ 36524 → epoch_day d ≡ pos days → d.year ≤ℤ pos 2069
early_year d days few e = by_lt_z (pos 2069) d.year
    (λ late. absurd (omega (arith, signed_arith, e, days_from_civil-day_count d.year d.month d.day, day_count-later_year (pos 2069) d.year (omega (arith, signed_arith)) late, day_count-day_of_year d.year d.month d.day (omega (arith, (civil d).2.0)), last_year)))
    (λ early. early)
  where
    last_year : day_count (pos 2069) 1 1 + 365 ≡ 36525 + 4371953
    last_year = ap (λ n. n + 365) (day_count-early (pos 2069) 12068 1 1 refl (omega arith) (omega arith) (omega arith))

clock_split : (m h mi s : ℕ) → h ≤ 23 → mi ≤ 59 → s ≤ 59 → m % 86_400 ≡ h * 3600 + mi * 60 + s → (h ≡ m % 86_400 / 3600) × (mi ≡ m % 3600 / 60) × (s ≡ m % 60)
clock_split m h mi s a b c e = (omega arith, omega arith, omega arith)

-- a date and clock with so many seconds are the day and the clock of that moment
pub split_is : (dt : DateTime) (m : ℕ) → m ≤ 3155759999 → pos 1970 ≤ℤ dt.date.year → epoch_day dt.date *ℤ pos 86_400 +ℤ pos (time_seconds dt.time) ≡ pos m → IsSplit dt m
split_is dt m range late e =
    let hour = dt.time.hour_in in let minute = dt.time.minute_in in let second = dt.time.second_in in
    let day : epoch_day dt.date ≡ pos (m / 86_400) = omega (arith, signed_arith, e) in
    let rest : m % 86_400 ≡ dt.time.hour * 3600 + dt.time.minute * 60 + dt.time.second = omega (arith, signed_arith, e) in
    let clock = clock_split m dt.time.hour dt.time.minute dt.time.second (omega arith) (omega arith) (omega arith) rest in
    let year = year_positive dt.date.year late in
    record {
      day = record {
        from = omega (arith, signed_arith, year);
        until = omega (arith, signed_arith, year, early_year dt.date (m / 86_400) (omega arith) day);
        date = rw year (civil dt.date);
        count = rw year (omega (arith, signed_arith, day, days_from_civil-day_count dt.date.year dt.date.month dt.date.day));
      };
      hour = clock.0;
      minute = clock.1;
      second = clock.2;
    }

year_of_clock : (dt : DateTime) (time : LocalTime) (m : ℕ) → IsSplit dt m → IsShown dt time → time.year ≡ unsigned_abs dt.date.year
year_of_clock dt time m split shown = ap unsigned_abs shown.year

pub shown_is : (dt : DateTime) (time : LocalTime) (m : ℕ) → IsSplit dt m → IsShown dt time → time ≡ shown_at m
shown_is dt time m split shown = same_parts local_time _ _ _ _ _ _ _ _ _ _ _ _ _ _ _ _
    (year_of_clock dt time m split shown ∙ sym (year_is _ _ _ _ split.day)) shown.ahead shown.behind
    (shown.month ∙ sym (month_is _ _ _ _ split.day)) (shown.day ∙ sym (day_is _ _ _ _ split.day))
    (shown.hour ∙ split.hour) (shown.minute ∙ split.minute) (shown.second ∙ split.second)
