-- Moments and hours of the day: the first one strictly after a moment.
use Rattle.std.proofs.Common.{◌≡◌, ◌⊎◌, inl, inr, ℕ, zero, suc, ◌+◌, ◌*◌, ◌/◌, ◌<◌, ◌≤◌, min, Bool, true, false, List, [], ◌∷◌, length, get_or, nat_lt, nat_le, Option, Some, None, IsSome, IfSome, ◌↔◌, All, refl, sym, ◌∙◌, ap, arith}
use mathlib.Core.Bool.{true≢false}
use Rattle.std.specs.List.{AllWithin}
use Rattle.std.proofs.lemmas.Bool.{cases_lt}
use Rattle.std.proofs.lemmas.Bool.Decides.{nat_tests}
use Rattle.std.proofs.lemmas.List.{get_or_default}
use Rattle.std.specs.List.Sorted.{IsNonDecreasingBy}
use Rattle.rating.specs.declared.period.Period.{Period}
use Rattle.rating.specs.Row.{IsSmall}
use Rattle.rating.specs.Price.{hour_of}
use Rattle.rating.specs.Switch.{next_at, sooner, soonest, in_range, switch_after}

-- the day and the hour of a moment
pub record OnDay (moment : ℕ) : Type 0 where
  pub low : moment / 86400 * 86400 + hour_of moment * 3600 ≤ moment
  pub high : moment < moment / 86400 * 86400 + hour_of moment * 3600 + 3600
  pub hour : hour_of moment < 24

pub on_day : (moment : ℕ) → OnDay moment
on_day moment = record {
  low = omega arith;
  high = omega arith;
  hour = omega arith;
}

-- an hour that is above that of the moment comes today
pub comes_today : (after hour : ℕ) → hour_of after < hour → next_at after hour ≡ after / 86400 * 86400 + hour * 3600
comes_today after hour l =
    let day = on_day after in
    let t : nat_lt after (after / 86400 * 86400 + hour * 3600) ≡ true = grind (arith, nat_tests, day.high) in
    rw t refl

-- any other tomorrow
pub comes_tomorrow : (after hour : ℕ) → hour ≤ hour_of after → next_at after hour ≡ after / 86400 * 86400 + hour * 3600 + 86400
comes_tomorrow after hour l =
    let day = on_day after in
    let t : nat_lt after (after / 86400 * 86400 + hour * 3600) ≡ false = grind (arith, nat_tests, day.low) in
    rw t refl

-- the soonest of listed hours, by one that is not later than any
least_is : (m : ℕ) (o : Option ℕ) → ((n : ℕ) → o ≡ Some n → m ≤ n) → sooner m o ≡ m
least_is m None h = refl
least_is m (Some n) h = let l = h n refl in omega (arith, l)

soonest_step : (after m n : ℕ) (x : Period) (xs : List Period) → m ≤ next_at after x.hour → ((k : ℕ) → soonest after xs ≡ Some k → m ≤ k) → (o : Option ℕ) → soonest after xs ≡ o → Some (sooner (next_at after x.hour) o) ≡ Some n → m ≤ n
soonest_step after m n x xs here rest None e i = let same : next_at after x.hour ≡ n = cc in omega (arith, same, here)
soonest_step after m n x xs here rest (Some k) e i = let same : min (next_at after x.hour) k ≡ n = cc in let r = rest k e in omega (arith, same, here, r)

soonest_ge : (after m n : ℕ) (xs : List Period) → All (λ (p : Period). m ≤ next_at after p.hour) xs → soonest after xs ≡ Some n → m ≤ n
soonest_ge after m n [] all is = absurd (let e : None ≡ Some n = is in cc)
soonest_ge after m n (x ∷ xs) all is =
    let here : m ≤ next_at after x.hour = all 0 x (omega arith) in
    soonest_step after m n x xs here (λ k e. soonest_ge after m k xs (λ j d l. all (suc j) d (omega arith)) e) (soonest after xs) refl is

pub soonest_is : (after m : ℕ) (xs : List Period) (i : ℕ) (d : Period) → i < length xs → next_at after (get_or xs i d).hour ≡ m → All (λ (p : Period). m ≤ next_at after p.hour) xs → soonest after xs ≡ Some m
soonest_is after m [] i d l is all = absurd (omega arith)
soonest_is after m (x ∷ xs) zero d l is all =
    ap Some (ap (λ n. sooner n (soonest after xs)) is ∙ least_is m (soonest after xs) (λ n e. soonest_ge after m n xs (λ j f b. all (suc j) f (omega arith)) e))
soonest_is after m (x ∷ xs) (suc i) d l is all =
    let ih : soonest after xs ≡ Some m = soonest_is after m xs i d (omega arith) is (λ j f b. all (suc j) f (omega arith)) in
    let here : m ≤ next_at after x.hour = all 0 x (omega arith) in
    let least : min (next_at after x.hour) m ≡ m = omega arith in
    ap (λ o. Some (sooner (next_at after x.hour) o)) ih ∙ ap Some least

-- where some listed hour is above that of the moment, the first such comes today
pub soonest_today : (after n : ℕ) (xs : List Period) (d : Period) → IsNonDecreasingBy (λ (p : Period). p.hour) xs → All IsSmall xs → AllWithin (λ (p : Period). p.hour ≤ hour_of after) xs 0 n → AllWithin (λ (p : Period). hour_of after < p.hour) xs n (length xs) → n < length xs
    → soonest after xs ≡ Some (after / 86400 * 86400 + (get_or xs n d).hour * 3600)
soonest_today after n xs d sorted small low high l =
    soonest_is after _ xs n d l (comes_today after (get_or xs n d).hour (high n d (omega arith) l)) (λ k e b. each k e b (cases_lt k n))
  where
    top : (get_or xs n d).hour ≤ 23
    top = (small n d l).hour

    each : (k : ℕ) (e : Period) → k < length xs → (k < n) ⊎ (n ≤ k) → after / 86400 * 86400 + (get_or xs n d).hour * 3600 ≤ next_at after (get_or xs k e).hour
    each k e b (inr x) =
        let later = sorted n k e x b in
        let same = ap (λ (p : Period). p.hour) (get_or_default xs n d e l) in
        let at = comes_today after (get_or xs k e).hour (high k e x b) in
        omega (arith, later, same, at)
    each k e b (inl x) =
        let at = comes_tomorrow after (get_or xs k e).hour (low k e (omega arith) x) in
        omega (arith, at, top)

-- where none is, the first of all comes tomorrow
pub soonest_tomorrow : (after n : ℕ) (xs : List Period) (d : Period) → IsNonDecreasingBy (λ (p : Period). p.hour) xs → AllWithin (λ (p : Period). p.hour ≤ hour_of after) xs 0 n → length xs ≤ n → 0 < length xs
    → soonest after xs ≡ Some (after / 86400 * 86400 + (get_or xs 0 d).hour * 3600 + 86400)
soonest_tomorrow after n xs d sorted low l some =
    soonest_is after _ xs 0 d some (comes_tomorrow after (get_or xs 0 d).hour (low 0 d (omega arith) (omega arith))) (λ k e b.
    let later = sorted 0 k e (omega arith) b in
    let same = ap (λ (p : Period). p.hour) (get_or_default xs 0 d e some) in
    let at = comes_tomorrow after (get_or xs k e).hour (low k e (omega arith) (omega arith)) in
    omega (arith, later, same, at))

-- a moment made of seconds
pub made_in_range : (m : ℕ) (made : Option ℕ) → (IsSome made ↔ (m ≤ 3155759999)) → IfSome made (λ x. x ≡ m) → made ≡ in_range (Some m)
made_in_range m None range value =
    let no : nat_le m 3155759999 ≡ false = by (nat_le m 3155759999) refl in rw no refl
  where
    by : (b : Bool) → nat_le m 3155759999 ≡ b → b ≡ false
    by false e = refl
    by true e = absurd (true≢false (sym (range.1 (grind (arith, nat_tests)))))
made_in_range m (Some x) range value =
    let yes : nat_le m 3155759999 ≡ true = let l = range.0 refl in grind (arith, nat_tests) in rw (yes, value) refl

-- what the soonest of listed hours is
pub switch_is : (after m : ℕ) (xs : List Period) (made : Option ℕ) → 2 ≤ length xs → soonest after xs ≡ Some m → (IsSome made ↔ (m ≤ 3155759999)) → IfSome made (λ x. x ≡ m) → made ≡ switch_after xs after
switch_is after m xs made two is range value =
    let yes : nat_le 2 (length xs) ≡ true = grind (arith, nat_tests) in
    made_in_range m made range value ∙ ap in_range (sym is) ∙ sym (rw yes refl)
