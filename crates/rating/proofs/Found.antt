-- The period that holds an hour, found by its place among hours that ascend.
use Rattle.std.proofs.Common.{◌≡◌, ℕ, zero, suc, ◌-◌, ◌<◌, ◌≤◌, Bool, true, false, List, [], ◌∷◌, length, take, get_or, nat_le, Some, filter, refl, sym, ◌∙◌, ap, arith}
use Rattle.std.specs.List.{AllWithin, slice_get}
use Rattle.std.specs.Option.{option_or}
use Rattle.std.proofs.lemmas.Option.{slice_get-get_or}
use Rattle.rating.specs.declared.period.Period.{Period}
use Rattle.rating.specs.Price.{last_of, period_at}
use Rattle.rating.proofs.Numbers.{le_is, gt_is}

-- the elements below a place pass a test, and those from it on do not
pub filter_front : {X : Type 0} (test : X → Bool) (xs : List X) (i : ℕ) → AllWithin (λ x. test x ≡ true) xs 0 i → AllWithin (λ x. test x ≡ false) xs i (length xs) → i ≤ length xs → filter test xs ≡ take i xs
filter_front test [] zero low high within = refl
filter_front test [] (suc i) low high within = absurd (omega arith)
filter_front test (x ∷ xs) zero low high within =
    let here : test x ≡ false = high 0 x (omega arith) (omega arith) in
    let rest : filter test xs ≡ [] = filter_front test xs 0 (λ k d a b. absurd (omega arith)) (λ k d a b. high (suc k) d (omega arith) (omega arith)) (omega arith) in
    rw here rest
filter_front test (x ∷ xs) (suc i) low high within =
    let here : test x ≡ true = low 0 x (omega arith) (omega arith) in
    let rest : filter test xs ≡ take i xs = filter_front test xs i (λ k d a b. low (suc k) d (omega arith) (omega arith)) (λ k d a b. high (suc k) d (omega arith) (omega arith)) (omega arith) in
    rw here (ap (λ ys. x ∷ ys) rest)

-- the last element by its place
pub last_at : {X : Type 0} (xs : List X) (i : ℕ) → length xs ≡ suc i → last_of xs ≡ slice_get xs i
last_at [] i is = absurd (omega arith)
last_at (x ∷ []) zero is = refl
last_at (x ∷ []) (suc i) is = absurd (omega arith)
last_at (x ∷ y ∷ xs) zero is = absurd (omega arith)
last_at (x ∷ y ∷ xs) (suc i) is = last_at (y ∷ xs) i (omega arith)

get_take : {X : Type 0} (xs : List X) (i : ℕ) → slice_get (take (suc i) xs) i ≡ slice_get xs i
get_take [] i = refl
get_take (x ∷ xs) zero = refl
get_take (x ∷ xs) (suc i) = get_take xs i

take_length : {X : Type 0} (xs : List X) (i : ℕ) → i ≤ length xs → length (take i xs) ≡ i
take_length [] zero l = refl
take_length [] (suc i) l = absurd (omega arith)
take_length (x ∷ xs) zero l = refl
take_length (x ∷ xs) (suc i) l = let rest = take_length xs i (omega arith) in omega (arith, rest)

-- the last of those that pass a test, where some do
pub last_passing : {X : Type 0} (test : X → Bool) (xs : List X) (i : ℕ) → AllWithin (λ x. test x ≡ true) xs 0 (suc i) → AllWithin (λ x. test x ≡ false) xs (suc i) (length xs) → suc i ≤ length xs → last_of (filter test xs) ≡ slice_get xs i
last_passing test xs i low high within = ap last_of (filter_front test xs (suc i) low high within) ∙ last_at (take (suc i) xs) i (take_length xs (suc i) within) ∙ get_take xs i

-- where some period begins at an hour or before, the last of these holds it
pub held_by_low : (xs : List Period) (hour i n : ℕ) (d : Period) → n ≡ suc i → AllWithin (λ (p : Period). p.hour ≤ hour) xs 0 n → AllWithin (λ (p : Period). hour < p.hour) xs n (length xs) → n ≤ length xs → Some (get_or xs i d) ≡ period_at hour xs
held_by_low xs hour i n d is low high within =
    let l : suc i ≤ length xs = omega arith in
    let passing = last_passing (λ (p : Period). nat_le p.hour hour) xs i (λ k e a b. le_is _ _ (low k e a (omega arith))) (λ k e a b. gt_is _ _ (high k e (omega arith) b)) l in
    let found : last_of (filter (λ (p : Period). nat_le p.hour hour) xs) ≡ Some (get_or xs i d) = passing ∙ slice_get-get_or xs i d (omega arith) in
    sym (ap (λ o. option_or o (last_of xs)) found)

last_by_length : {X : Type 0} (xs : List X) → slice_get xs (length xs - 1) ≡ last_of xs
last_by_length [] = refl
last_by_length (x ∷ xs) = let e : suc (length xs) - 1 ≡ length xs = omega arith in ap (slice_get (x ∷ xs)) e ∙ sym (last_at (x ∷ xs) (length xs) refl)

-- where none does, the last of all holds it
pub held_by_last : (xs : List Period) (hour : ℕ) → AllWithin (λ (p : Period). hour < p.hour) xs 0 (length xs) → slice_get xs (length xs - 1) ≡ period_at hour xs
held_by_last xs hour high =
    let none : filter (λ (p : Period). nat_le p.hour hour) xs ≡ [] = filter_front (λ (p : Period). nat_le p.hour hour) xs 0 (λ k d a b. absurd (omega arith)) (λ k d a b. gt_is _ _ (high k d a b)) (omega arith) in
    last_by_length xs ∙ sym (ap (λ ys. option_or (last_of ys) (last_of xs)) none)
