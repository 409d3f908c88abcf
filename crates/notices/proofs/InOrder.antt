-- Lists in ascending order: what is found by halves, what goes in and what is taken away.
use Rattle.std.proofs.Common.{◌≡◌, ◌≢◌, ◌==◌, inl, inr, ℕ, zero, suc, ◌+◌, ◌<◌, ◌≤◌, true, false, cond, if◌then◌else◌, List, [], ◌∷◌, length, find, get_or, slice_get, Some, None, refl, sym, ap, ◌∙◌, arith, ltb, leb}
use Rattle.std.specs.List.{AllWithin, insert, remove}
use Rattle.std.specs.List.Sorted.{IsNonDecreasingBy}
use Rattle.std.proofs.lemmas.Bool.{ltb-true, ltb-false, leb-true, leb-false, eq-eqb, ne_eqb, cases_lt}
use Rattle.std.proofs.lemmas.List.Edits.{length-remove, get_or-remove_below, get_or-remove_above}
use Rattle.std.proofs.lemmas.List.Sorted.{IsNonDecreasingBy-insert}
use Rattle.notices.specs.InOrder.{put_in_order, without_first}
use Rattle.notices.specs.Places.{IsFirstAt, HasNone, IsPlace}

-- ---- one more

-- what goes in before the first that is greater is at its place
put_at : {X : Type 0} (number : X → ℕ) (xs : List X) (i : ℕ) (x : X) → i ≤ length xs
    → AllWithin (λ y. leb (number y) (number x) ≡ true) xs 0 i → AllWithin (λ y. leb (number y) (number x) ≡ false) xs i (length xs)
    → insert xs i x ≡ put_in_order number xs x
put_at number [] zero x within low high = refl
put_at number [] (suc i) x within low high = absurd (omega arith)
put_at number (y ∷ ys) zero x within low high =
    sym (ap (λ b. if b then y ∷ put_in_order number ys x else x ∷ y ∷ ys) (high 0 y (omega arith) (omega arith)))
put_at number (y ∷ ys) (suc i) x within low high =
    ap (λ zs. y ∷ zs) (put_at number ys i x (omega arith) (λ k d a l. low (suc k) d (omega arith) (omega arith)) (λ k d a l. high (suc k) d (omega arith) (omega arith)))
    ∙ sym (ap (λ b. if b then y ∷ put_in_order number ys x else x ∷ y ∷ ys) (low 0 y (omega arith) (omega arith)))

pub place : {X : Type 0} (number : X → ℕ) (xs : List X) (i : ℕ) (x : X) → IsNonDecreasingBy number xs → i ≤ length xs
    → AllWithin (λ y. leb (number y) (number x) ≡ true) xs 0 i → AllWithin (λ y. leb (number y) (number x) ≡ false) xs i (length xs)
    → IsPlace number x xs i
place number xs i x sorted within low high = record {
  within = within;
  put = put_at number xs i x within low high;
  still = IsNonDecreasingBy-insert number xs i x sorted within
      (λ k d l. leb-true (number (get_or xs k d)) (number x) (low k d (omega arith) l))
      (λ k d a l. let above = leb-false (number (get_or xs k d)) (number x) (high k d a l) in omega arith);
}

-- ---- one less

-- the first of a number, after those that are below
first_at : {X : Type 0} (number : X → ℕ) (xs : List X) (i n : ℕ) (x : X) → slice_get xs i ≡ Some x → number x ≡ n
    → AllWithin (λ y. ltb (number y) n ≡ true) xs 0 i
    → (find (λ y. number y == n) xs ≡ Some x) × (without_first number xs n ≡ remove xs i)
first_at number [] i n x is same low = absurd (none is)
  where
    none : None ≡ Some x → ⊥
    none h = cc
first_at number (y ∷ ys) zero n x is same low =
    let e : y ≡ x = cc in
    let test : (number y == n) ≡ true = eq-eqb (number y) n (ap number e ∙ same) in
    (ap (λ b. cond b (Some y) (find (λ z. number z == n) ys)) test ∙ ap Some e, ap (λ b. if b then ys else y ∷ without_first number ys n) test)
first_at number (y ∷ ys) (suc i) n x is same low =
    let lt : number y < n = ltb-true (number y) n (low 0 y (omega arith) (omega arith)) in
    let test : (number y == n) ≡ false = ne_eqb (number y) n (λ e. omega arith) in
    let rest = first_at number ys i n x is same (λ k d a l. low (suc k) d (omega arith) (omega arith)) in
    (ap (λ b. cond b (Some y) (find (λ z. number z == n) ys)) test ∙ rest.0, ap (λ b. if b then ys else y ∷ without_first number ys n) test ∙ ap (λ zs. y ∷ zs) rest.1)

-- where no element is of a number
pub none_of : {X : Type 0} (number : X → ℕ) (xs : List X) (n : ℕ) → AllWithin (λ y. (number y == n) ≡ false) xs 0 (length xs) → HasNone number n xs
none_of number [] n h = record { first = refl; rest = refl }
none_of number (y ∷ ys) n h =
    let test : (number y == n) ≡ false = h 0 y (omega arith) (omega arith) in
    let rest = none_of number ys n (λ k d a l. h (suc k) d (omega arith) (omega arith)) in
    record {
      first = ap (λ b. cond b (Some y) (find (λ z. number z == n) ys)) test ∙ rest.first;
      rest = ap (λ b. if b then ys else y ∷ without_first number ys n) test ∙ ap (λ zs. y ∷ zs) rest.rest;
    }

-- none is, where the first that is not below is another
pub none_there : {X : Type 0} (number : X → ℕ) (xs : List X) (i n : ℕ) → IsNonDecreasingBy number xs
    → AllWithin (λ y. ltb (number y) n ≡ true) xs 0 i → AllWithin (λ y. ltb (number y) n ≡ false) xs i (length xs)
    → ((d : X) → i < length xs → number (get_or xs i d) ≢ n)
    → HasNone number n xs
none_there number xs i n sorted low high other = none_of number xs n (λ k d a l.
    elim (cases_lt k i) [
      | inl below ↦ let lt = ltb-true (number (get_or xs k d)) n (low k d (omega arith) below) in ne_eqb (number (get_or xs k d)) n (λ e. omega arith)
      | inr above ↦
          let here = ltb-false (number (get_or xs i d)) n (high i d (omega arith) (omega arith)) in
          let up = sorted i k d above l in
          ne_eqb (number (get_or xs k d)) n (λ e. other d (omega arith) (omega arith))
    ])

-- without one, the rest is still in order
without_still : {X : Type 0} (number : X → ℕ) (xs : List X) (at : ℕ) → IsNonDecreasingBy number xs → at < length xs → IsNonDecreasingBy number (remove xs at)
without_still number xs at sorted within i j d le l =
    let size = length-remove xs at within in
    elim (cases_lt j at) [
      | inl low ↦
          let a = ap number (get_or-remove_below xs at d i (omega arith) within) in
          let b = ap number (get_or-remove_below xs at d j low within) in
          let up = sorted i j d le (omega arith) in
          omega arith
      | inr high ↦
          let b = ap number (get_or-remove_above xs at d j high within) in
          elim (cases_lt i at) [
            | inl low ↦
                let a = ap number (get_or-remove_below xs at d i low within) in
                let up = sorted i (j + 1) d (omega arith) (omega arith) in
                omega arith
            | inr above ↦
                let a = ap number (get_or-remove_above xs at d i above within) in
                let up = sorted (i + 1) (j + 1) d (omega arith) (omega arith) in
                omega arith
          ]
    ]

pub found : {X : Type 0} (number : X → ℕ) (xs : List X) (i n : ℕ) (x : X) → IsNonDecreasingBy number xs → i < length xs → slice_get xs i ≡ Some x → number x ≡ n
    → AllWithin (λ y. ltb (number y) n ≡ true) xs 0 i
    → IsFirstAt number n xs i
found number xs i n x sorted within is same low =
    let both = first_at number xs i n x is same low in
    record {
      within = within;
      first = both.0 ∙ sym is;
      rest = both.1;
      still = without_still number xs i sorted within;
    }
