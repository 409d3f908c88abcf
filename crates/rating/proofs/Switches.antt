-- The first listed hour strictly after a moment is the first switch.
use Rattle.std.proofs.Common.{◌≡◌, ◌⊎◌, inl, inr, ℕ, suc, ◌%◌, ◌<◌, ◌≤◌, ◌==◌, ◌&&◌, ◌||◌, Bool, true, false, List, [], ◌∷◌, length, nat_le, Option, Some, None, All, if◌then◌else◌, ⊎_elim, refl, sym, ◌∙◌, ap, subst, arith}
use mathlib.Core.Bool.{true≢false}
use Rattle.std.specs.List.{list_any}
use Rattle.std.proofs.lemmas.Bool.{cases_lt}
use Rattle.std.proofs.lemmas.Bool.Decides.{nat_tests}
use Rattle.rating.specs.declared.period.Period.{Period}
use Rattle.rating.specs.Row.{IsSmall}
use Rattle.rating.specs.Price.{hour_of}
use Rattle.rating.specs.Switch.{next_at, sooner, soonest, in_range, switch_after, switches, IsFirstSwitch, NoSwitchBefore}
use Rattle.rating.proofs.Days.{on_day, comes_today, comes_tomorrow}
use Rattle.rating.proofs.Numbers.{is_eq, eq_is}

-- the moment at which an hour next begins
pub record IsNext (after hour moment : ℕ) : Type 0 where
  pub later : after < moment
  pub whole : moment % 3600 ≡ 0
  pub at_hour : hour_of moment ≡ hour

next_is : (after hour : ℕ) → hour ≤ 23 → IsNext after hour (next_at after hour)
next_is after hour l = by (cases_lt (hour_of after) hour)
  where
    by : (hour_of after < hour) ⊎ (hour ≤ hour_of after) → IsNext after hour (next_at after hour)
    by (inl x) = let day = on_day after in let at = comes_today after hour x in subst (IsNext after hour) (sym at) (record {
      later = omega (arith, day.high);
      whole = omega arith;
      at_hour = omega arith;
    })
    by (inr x) = let day = on_day after in let at = comes_tomorrow after hour x in subst (IsNext after hour) (sym at) (record {
      later = omega (arith, day.high);
      whole = omega arith;
      at_hour = omega arith;
    })

-- no whole hour after the moment that has that hour of the day comes before it
next_least : (after moment : ℕ) → after < moment → moment % 3600 ≡ 0 → next_at after (hour_of moment) ≤ moment
next_least after moment l whole = by (cases_lt (hour_of after) (hour_of moment))
  where
    by : (hour_of after < hour_of moment) ⊎ (hour_of moment ≤ hour_of after) → next_at after (hour_of moment) ≤ moment
    by (inl x) = let a = on_day after in let m = on_day moment in let at = comes_today after (hour_of moment) x in omega (arith, a.low, a.high, a.hour, m.low, m.high, m.hour, at)
    by (inr x) = let a = on_day after in let m = on_day moment in let at = comes_tomorrow after (hour_of moment) x in omega (arith, a.low, a.high, a.hour, m.low, m.high, m.hour, at)

-- the soonest is that of a listed hour, and no listed hour has a sooner one
pub record IsSoonest (after moment : ℕ) (xs : List Period) : Type 0 where
  pub hour : ℕ
  pub small : hour ≤ 23
  pub listed : list_any (λ (p : Period). p.hour == hour) xs ≡ true
  pub is : moment ≡ next_at after hour
  pub least : (other : ℕ) → list_any (λ (p : Period). p.hour == other) xs ≡ true → moment ≤ next_at after other

listed_head : (x : Period) (xs : List Period) → list_any (λ (p : Period). p.hour == x.hour) (x ∷ xs) ≡ true
listed_head x xs = rw (eq_is x.hour) refl

listed_tail : (hour : ℕ) (x : Period) (xs : List Period) → list_any (λ (p : Period). p.hour == hour) xs ≡ true → list_any (λ (p : Period). p.hour == hour) (x ∷ xs) ≡ true
listed_tail hour x xs h = by (x.hour == hour)
  where
    by : (b : Bool) → (b || list_any (λ (p : Period). p.hour == hour) xs) ≡ true
    by true = refl
    by false = h

-- a listed hour is the first or among the others
listed_cases : (hour : ℕ) (x : Period) (xs : List Period) → list_any (λ (p : Period). p.hour == hour) (x ∷ xs) ≡ true → (x.hour ≡ hour) ⊎ (list_any (λ (p : Period). p.hour == hour) xs ≡ true)
listed_cases hour x xs h = by (x.hour == hour) refl h
  where
    by : (b : Bool) → (x.hour == hour) ≡ b → (b || list_any (λ (p : Period). p.hour == hour) xs) ≡ true → (x.hour ≡ hour) ⊎ (list_any (λ (p : Period). p.hour == hour) xs ≡ true)
    by true e i = inl (is_eq x.hour hour e)
    by false e i = inr i

none_listed : (after hour : ℕ) (xs : List Period) → soonest after xs ≡ None → list_any (λ (p : Period). p.hour == hour) xs ≡ true → ⊥
none_listed after hour [] e h = true≢false (sym h)
none_listed after hour (x ∷ xs) e h = cc

some_is : (a b : ℕ) → Some a ≡ Some b → a ≡ b
some_is a b e = cc

-- one period more at the front: its hour or one of the others
soonest_step : (after moment : ℕ) (x : Period) (xs : List Period) → x.hour ≤ 23 → ((m : ℕ) → soonest after xs ≡ Some m → IsSoonest after m xs) → (o : Option ℕ) → soonest after xs ≡ o → moment ≡ sooner (next_at after x.hour) o → IsSoonest after moment (x ∷ xs)
soonest_step after moment x xs small rest None e is = record {
  hour = x.hour;
  small = small;
  listed = listed_head x xs;
  is = is;
  least = λ other h. ⊎_elim (λ (same : x.hour ≡ other). let at = ap (next_at after) same in omega (arith, is, at)) (λ g. absurd (none_listed after other xs e g)) (listed_cases other x xs h);
}
soonest_step after moment x xs small rest (Some k) e is = by (cases_lt k (next_at after x.hour))
  where
    found : IsSoonest after k xs
    found = rest k e

    at_least : (m other : ℕ) → m ≤ next_at after x.hour → m ≤ k → list_any (λ (p : Period). p.hour == other) (x ∷ xs) ≡ true → m ≤ next_at after other
    at_least m other a b h = ⊎_elim (λ (same : x.hour ≡ other). let at = ap (next_at after) same in omega (arith, a, at)) (λ g. let l = found.least other g in omega (arith, l, b)) (listed_cases other x xs h)

    by : (k < next_at after x.hour) ⊎ (next_at after x.hour ≤ k) → IsSoonest after moment (x ∷ xs)
    by (inl l) = record {
      hour = found.hour;
      small = found.small;
      listed = listed_tail found.hour x xs found.listed;
      is = let f = found.is in omega (arith, is, f, l);
      least = λ other h. at_least moment other (omega (arith, is, l)) (omega (arith, is, l)) h;
    }
    by (inr l) = record {
      hour = x.hour;
      small = small;
      listed = listed_head x xs;
      is = omega (arith, is, l);
      least = λ other h. at_least moment other (omega (arith, is, l)) (omega (arith, is, l)) h;
    }

soonest_found : (after : ℕ) (xs : List Period) → All IsSmall xs → (moment : ℕ) → soonest after xs ≡ Some moment → IsSoonest after moment xs
soonest_found after [] small moment e = absurd (let f : None ≡ Some moment = e in cc)
soonest_found after (x ∷ xs) small moment e =
    soonest_step after moment x xs (small 0 x (omega arith)).hour (soonest_found after xs (λ k d l. small (suc k) d (omega arith))) (soonest after xs) refl (sym (some_is _ _ e))

-- a switch is in range and at the begin of a listed hour
pub record SwitchParts (xs : List Period) (moment : ℕ) : Type 0 where
  pub in_time : moment ≤ 3155759999
  pub whole : moment % 3600 ≡ 0
  pub listed : list_any (λ (p : Period). p.hour == hour_of moment) xs ≡ true

pub switch_parts : (xs : List Period) (moment : ℕ) → switches xs moment ≡ true → SwitchParts xs moment
switch_parts xs moment h = by (nat_le 2 (length xs)) (nat_le moment 3155759999) (moment % 3600 == 0) (list_any (λ (p : Period). p.hour == hour_of moment) xs) refl refl refl h
  where
    by : (two timed whole listed : Bool) → nat_le moment 3155759999 ≡ timed → (moment % 3600 == 0) ≡ whole → list_any (λ (p : Period). p.hour == hour_of moment) xs ≡ listed → (two && (timed && (whole && listed))) ≡ true → SwitchParts xs moment
    by true true true true t a b i = record { in_time = grind (arith, nat_tests); whole = is_eq (moment % 3600) 0 a; listed = b }
    by true true true false t a b i = absurd (true≢false (sym i))
    by true true false listed t a b i = absurd (true≢false (sym i))
    by true false whole listed t a b i = absurd (true≢false (sym i))
    by false timed whole listed t a b i = absurd (true≢false (sym i))

-- no switch lies between the moment and the soonest
none_between : (after moment : ℕ) (xs : List Period) → IsSoonest after moment xs → NoSwitchBefore (switches xs) after moment
none_between after moment xs s other l below = by (switches xs other) refl
  where
    by : (b : Bool) → switches xs other ≡ b → b ≡ false
    by false e = refl
    by true e =
        let parts = switch_parts xs other e in
        let no_sooner = s.least (hour_of other) parts.listed in
        let no_later = next_least after other l parts.whole in
        absurd (omega (arith, no_sooner, no_later, below))

-- the soonest is a switch, where there are two periods
is_switch_there : (after moment : ℕ) (xs : List Period) → nat_le 2 (length xs) ≡ true → nat_le moment 3155759999 ≡ true → IsSoonest after moment xs → (after < moment) × (switches xs moment ≡ true)
is_switch_there after moment xs two timed s =
    let n = next_is after s.hour s.small in
    let whole : moment % 3600 ≡ 0 = ap (λ m. m % 3600) s.is ∙ n.whole in
    let hour : hour_of moment ≡ s.hour = ap hour_of s.is ∙ n.at_hour in
    let listed : list_any (λ (p : Period). p.hour == hour_of moment) xs ≡ true = ap (λ h. list_any (λ (p : Period). p.hour == h) xs) hour ∙ s.listed in
    let later = n.later in
    (omega (arith, s.is, later), rw (two, timed, whole, listed) refl)

in_range_first : (after : ℕ) (xs : List Period) → nat_le 2 (length xs) ≡ true → All IsSmall xs → (o : Option ℕ) → soonest after xs ≡ o → 2 ≤ length xs → IsFirstSwitch (switches xs) after (in_range o)
in_range_first after [] two small None e some = absurd (omega arith)
in_range_first after (x ∷ xs) two small None e some = absurd (cc)
in_range_first after xs two small (Some moment) e some = by (nat_le moment 3155759999) refl
  where
    found : IsSoonest after moment xs
    found = soonest_found after xs small moment e

    by : (b : Bool) → nat_le moment 3155759999 ≡ b → IsFirstSwitch (switches xs) after (if b then Some moment else None)
    by true l = let there = is_switch_there after moment xs two l found in (there.0, there.1, none_between after moment xs found)
    by false l = λ other a. none other a (switches xs other) refl
      where
        late : 3155759999 < moment
        late = grind (arith, nat_tests)

        none : (other : ℕ) → after < other → (b : Bool) → switches xs other ≡ b → b ≡ false
        none other a false e = refl
        none other a true e = let parts = switch_parts xs other e in absurd (true≢false (sym e ∙ none_between after moment xs found other a (let t = parts.in_time in omega (arith, t, late))))

-- what the first listed hour strictly after a moment is among all moments
pub first_switch : (after : ℕ) (xs : List Period) → All IsSmall xs → IsFirstSwitch (switches xs) after (switch_after xs after)
first_switch after xs small = by (nat_le 2 (length xs)) refl
  where
    by : (b : Bool) → nat_le 2 (length xs) ≡ b → IsFirstSwitch (switches xs) after (if b then in_range (soonest after xs) else None)
    by true two = in_range_first after xs two small (soonest after xs) refl (grind (arith, nat_tests))
    by false two = λ moment a. rw two refl
