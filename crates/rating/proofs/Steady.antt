-- Prices change at switches only: with none after a moment and up to another, both are held by one period.
use Rattle.std.proofs.Common.{◌≡◌, ◌⊎◌, inl, inr, ℕ, zero, suc, ◌+◌, ◌-◌, ◌*◌, ◌/◌, ◌%◌, ◌<◌, ◌≤◌, ◌==◌, ◌||◌, Bool, true, false, cond, List, [], ◌∷◌, length, nat_le, Option, Some, None, All, filter, refl, sym, ◌∙◌, ap, arith}
use mathlib.Core.Bool.{true≢false}
use Rattle.std.specs.List.{list_any}
use Rattle.std.specs.Option.{option_or}
use Rattle.std.proofs.lemmas.Bool.{cases_lt}
use Rattle.std.proofs.lemmas.Bool.Decides.{nat_tests}
use Rattle.units.specs.Cut.{NoSwitchWithin}
use Rattle.rating.specs.declared.period.Period.{Period}
use Rattle.rating.specs.Price.{hour_of, in_time, last_of, period_at}
use Rattle.rating.specs.Switch.{switches}
use Rattle.rating.proofs.Numbers.{le_is}

abbrev pub AreOfDay : List Period → Type 0
AreOfDay ps = All (λ (p : Period). p.hour ≤ 23) ps

-- neither is listed
not_listed : (p : Period) (ps : List Period) (hour : ℕ) → list_any (λ (q : Period). q.hour == hour) (p ∷ ps) ≡ false → ((p.hour == hour) ≡ false) × (list_any (λ (q : Period). q.hour == hour) ps ≡ false)
not_listed p ps hour h = by (p.hour == hour) refl h
  where
    by : (b : Bool) → (p.hour == hour) ≡ b → (b || list_any (λ (q : Period). q.hour == hour) ps) ≡ false → ((p.hour == hour) ≡ false) × (list_any (λ (q : Period). q.hour == hour) ps ≡ false)
    by true e i = absurd (true≢false i)
    by false e i = (e, i)

test_step : (a hour : ℕ) → (a == hour + 1) ≡ false → nat_le a (hour + 1) ≡ nat_le a hour
test_step a hour h = by (nat_le a (hour + 1)) (nat_le a hour) refl refl
  where
    apart : a ≡ hour + 1 → ⊥
    apart e = true≢false (sym (let t : (a == hour + 1) ≡ true = grind (arith, nat_tests) in t) ∙ h)

    by : (b c : Bool) → nat_le a (hour + 1) ≡ b → nat_le a hour ≡ c → b ≡ c
    by true true e f = refl
    by false false e f = refl
    by true false e f = let l : a ≤ hour + 1 = grind (arith, nat_tests) in let g : hour < a = grind (arith, nat_tests) in absurd (apart (omega arith))
    by false true e f = let l : hour + 1 < a = grind (arith, nat_tests) in let g : a ≤ hour = grind (arith, nat_tests) in absurd (omega arith)

-- the next hour, where it is not listed, keeps the same periods
filter_step : (ps : List Period) (hour : ℕ) → list_any (λ (p : Period). p.hour == hour + 1) ps ≡ false → filter (λ (p : Period). nat_le p.hour (hour + 1)) ps ≡ filter (λ (p : Period). nat_le p.hour hour) ps
filter_step [] hour h = refl
filter_step (p ∷ ps) hour h =
    let parts = not_listed p ps (hour + 1) h in
    (λ i. cond (test_step p.hour hour parts.0 i) (p ∷ filter_step ps hour parts.1 i) (filter_step ps hour parts.1 i))

pub next_hour : (ps : List Period) (hour : ℕ) → list_any (λ (p : Period). p.hour == hour + 1) ps ≡ false → period_at (hour + 1) ps ≡ period_at hour ps
next_hour ps hour h = ap (λ (qs : List Period). option_or (last_of qs) (last_of ps)) (filter_step ps hour h)

-- midnight, where it is not listed, is held by the last period, as the last hour of the day is
no_midnight : (ps : List Period) → list_any (λ (p : Period). p.hour == 0) ps ≡ false → filter (λ (p : Period). nat_le p.hour 0) ps ≡ []
no_midnight [] h = refl
no_midnight (p ∷ ps) h =
    let parts = not_listed p ps 0 h in
    let above : nat_le p.hour 0 ≡ false = late p.hour parts.0 in
    rw above (no_midnight ps parts.1)
  where
    late : (a : ℕ) → (a == 0) ≡ false → nat_le a 0 ≡ false
    late zero e = absurd (true≢false e)
    late (suc a) e = grind (arith, nat_tests)

whole_day : (ps : List Period) → AreOfDay ps → filter (λ (p : Period). nat_le p.hour 23) ps ≡ ps
whole_day [] small = refl
whole_day (p ∷ ps) small =
    let here : nat_le p.hour 23 ≡ true = let l = small 0 p (omega arith) in grind (arith, nat_tests) in
    rw here (ap (λ qs. p ∷ qs) (whole_day ps (λ k d l. small (suc k) d (omega arith))))

or_same : {X : Type 0} (o : Option X) → option_or o o ≡ o
or_same None = refl
or_same (Some x) = refl

pub midnight : (ps : List Period) → AreOfDay ps → list_any (λ (p : Period). p.hour == 0) ps ≡ false → period_at 0 ps ≡ period_at 23 ps
midnight ps small h =
    ap (λ (qs : List Period). option_or (last_of qs) (last_of ps)) (no_midnight ps h)
    ∙ sym (ap (λ (qs : List Period). option_or (last_of qs) (last_of ps)) (whole_day ps small) ∙ or_same (last_of ps))

-- one hour on, counted from the first moment
pub hour_on : (ps : List Period) (k : ℕ) → AreOfDay ps → list_any (λ (p : Period). p.hour == suc k % 24) ps ≡ false → period_at (suc k % 24) ps ≡ period_at (k % 24) ps
hour_on ps k small h = by (cases_lt (k % 24) 23)
  where
    by : (k % 24 < 23) ⊎ (23 ≤ k % 24) → period_at (suc k % 24) ps ≡ period_at (k % 24) ps
    by (inl l) = let e : suc k % 24 ≡ k % 24 + 1 = omega arith in ap (λ n. period_at n ps) e ∙ next_hour ps (k % 24) (ap (λ n. list_any (λ (p : Period). p.hour == n) ps) (sym e) ∙ h)
    by (inr l) = let e : suc k % 24 ≡ 0 = omega arith in let f : k % 24 ≡ 23 = omega arith in ap (λ n. period_at n ps) e ∙ midnight ps small (ap (λ n. list_any (λ (p : Period). p.hour == n) ps) (sym e) ∙ h) ∙ ap (λ n. period_at n ps) (sym f)

-- some hours on
pub hours_on : (ps : List Period) (k n : ℕ) → AreOfDay ps → ((j : ℕ) → k < j → j ≤ k + n → list_any (λ (p : Period). p.hour == j % 24) ps ≡ false) → period_at ((k + n) % 24) ps ≡ period_at (k % 24) ps
hours_on ps k zero small none = let e : k + 0 ≡ k = omega arith in ap (λ m. period_at (m % 24) ps) e
hours_on ps k (suc n) small none =
    let e : k + suc n ≡ suc (k + n) = omega arith in
    ap (λ m. period_at (m % 24) ps) e ∙ hour_on ps (k + n) small (none (suc (k + n)) (omega arith) (omega arith)) ∙ hours_on ps k n small (λ j a b. none j a (omega arith))

-- one period holds every hour
one_period : (ps : List Period) (g h : ℕ) → length ps < 2 → period_at g ps ≡ period_at h ps
one_period [] g h l = refl
one_period (p ∷ []) g h l = at g ∙ sym (at h)
  where
    at : (n : ℕ) → period_at n (p ∷ []) ≡ Some p
    at n = by (nat_le p.hour n)
      where
        by : (b : Bool) → option_or (last_of (cond b (p ∷ []) [])) (Some p) ≡ Some p
        by true = refl
        by false = refl
one_period (p ∷ q ∷ ps) g h l = absurd (omega arith)

-- where a whole hour in range is no switch of at least two periods, its hour is not listed
unlisted : (ps : List Period) (j : ℕ) → 2 ≤ length ps → j * 3600 ≤ 3155759999 → switches ps (j * 3600) ≡ false → list_any (λ (p : Period). p.hour == j % 24) ps ≡ false
unlisted ps j two l h =
    let t : nat_le 2 (length ps) ≡ true = grind (arith, nat_tests) in
    let timed : nat_le (j * 3600) 3155759999 ≡ true = le_is (j * 3600) 3155759999 l in
    let m : j * 3600 % 3600 ≡ 0 = omega arith in
    let whole : (j * 3600 % 3600 == 0) ≡ true = ap (λ n. n == 0) m in
    let e : hour_of (j * 3600) ≡ j % 24 = ap (λ n. n % 24) (let d : j * 3600 / 3600 ≡ j = omega arith in d) in
    ap (λ n. list_any (λ (p : Period). p.hour == n) ps) (sym e) ∙ (rw (t, timed, whole) at h)

-- the law
pub steady : (ps : List Period) (a b : ℕ) → AreOfDay ps → a ≤ b → NoSwitchWithin (switches ps) a b → period_at (hour_of (in_time b)) ps ≡ period_at (hour_of (in_time a)) ps
steady ps a b small l none = by (cases_lt (length ps) 2)
  where
    by : (length ps < 2) ⊎ (2 ≤ length ps) → period_at (hour_of (in_time b)) ps ≡ period_at (hour_of (in_time a)) ps
    by (inl one) = one_period ps (hour_of (in_time b)) (hour_of (in_time a)) one
    by (inr two) =
        let e : in_time b / 3600 ≡ in_time a / 3600 + (in_time b / 3600 - in_time a / 3600) = omega arith in
        ap (λ n. period_at (n % 24) ps) e ∙ hours_on ps (in_time a / 3600) (in_time b / 3600 - in_time a / 3600) small (λ j x y. unlisted ps j two (omega arith) (none (j * 3600) (omega arith) (omega arith)))
