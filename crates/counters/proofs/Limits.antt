-- The limits of a counter: whether an amount is above them, and the greatest that is not above an amount.
use Rattle.std.proofs.Common.{◌≡◌, ℕ, zero, suc, ◌-◌, ◌<◌, ◌≤◌, Bool, true, false, List, [], ◌∷◌, length, get_or, nat_lt, nat_le, Option, Some, None, refl, sym, ap, ◌∙◌, arith, leb, if◌then◌else◌}
use Rattle.std.specs.List.{AllWithin, list_all, slice_get, filter}
use Rattle.std.specs.List.Sorted.{IsNonDecreasingBy}
use Rattle.std.proofs.lemmas.Option.{slice_get_within, get_or_from_slice_get, slice_get-get_or}
use Rattle.std.proofs.lemmas.List.Sums.{list_all-from_AllPass}
use Rattle.std.proofs.lemmas.List.Folds.{list_all_at}
use Rattle.counters.specs.declared.row.Limit.{Limit}
use Rattle.counters.specs.Status.{greater, greatest, reached}
use Rattle.counters.specs.Caches.{AreLimits}
use Rattle.counters.proofs.Order.{is_lt, lt_is, le_is}

-- an amount is above all limits where it is above the last
pub above_by_last : (xs : List Limit) (last : Limit) (amount : ℕ) → IsNonDecreasingBy (λ (l : Limit). l.amount) xs → slice_get xs (length xs - 1) ≡ Some last → list_all (λ l. nat_lt l.amount amount) xs ≡ nat_lt last.amount amount
above_by_last xs last amount sorted is = by (nat_lt last.amount amount) refl
  where
    within : length xs - 1 < length xs
    within = slice_get_within xs (length xs - 1) last is

    by : (b : Bool) → nat_lt last.amount amount ≡ b → list_all (λ l. nat_lt l.amount amount) xs ≡ b
    by true e = list_all-from_AllPass (λ l. nat_lt l.amount amount) xs (λ k d l.
        let below = sorted k (length xs - 1) d (omega arith) within in
        let at = ap (λ (p : Limit). p.amount) (get_or_from_slice_get xs (length xs - 1) last d is) in
        let lt = lt_is last.amount amount e in
        is_lt (get_or xs k d).amount amount (omega (arith, below, at, lt)))
    by false e = list_all_at (λ l. nat_lt l.amount amount) xs (length xs - 1) last within (ap (λ (p : Limit). nat_lt p.amount amount) (get_or_from_slice_get xs (length xs - 1) last last is) ∙ e)

-- the last of so many
abbrev pub last_of : ℕ → List Limit → Option Limit
last_of zero xs = None
last_of (suc k) xs = slice_get xs k

-- limits after the first
rest_sorted : (x : Limit) (xs : List Limit) → IsNonDecreasingBy (λ (l : Limit). l.amount) (x ∷ xs) → IsNonDecreasingBy (λ (l : Limit). l.amount) xs
rest_sorted x xs sorted = λ i j d le lt. sorted (suc i) (suc j) d (omega arith) (omega arith)

-- where none of them passes, none is reached
none_reached : (xs : List Limit) (spent : ℕ) → AllWithin (λ (l : Limit). leb l.amount spent ≡ false) xs 0 (length xs) → reached xs spent ≡ None
none_reached [] spent h = refl
none_reached (x ∷ xs) spent h =
    ap (λ b. greatest (if b then x ∷ filter (λ (l : Limit). nat_le l.amount spent) xs else filter (λ (l : Limit). nat_le l.amount spent) xs)) (h 0 x (omega arith) (omega arith))
    ∙ none_reached xs spent (λ k d a l. h (suc k) d (omega arith) (omega arith))

-- the last limit that is not above an amount is the greatest of those
pub reached_is : (xs : List Limit) (spent i : ℕ) → IsNonDecreasingBy (λ (l : Limit). l.amount) xs → i ≤ length xs
    → AllWithin (λ (l : Limit). leb l.amount spent ≡ true) xs 0 i → AllWithin (λ (l : Limit). leb l.amount spent ≡ false) xs i (length xs)
    → reached xs spent ≡ last_of i xs
reached_is xs spent zero sorted le low high = none_reached xs spent high
reached_is [] spent (suc i) sorted le low high = absurd (omega arith)
reached_is (x ∷ xs) spent (suc i) sorted le low high =
    ap (λ b. greatest (if b then x ∷ filter (λ (l : Limit). nat_le l.amount spent) xs else filter (λ (l : Limit). nat_le l.amount spent) xs)) (low 0 x (omega arith) (omega arith))
    ∙ ap (greater x) (reached_is xs spent i (rest_sorted x xs sorted) (omega arith) (λ k d a l. low (suc k) d (omega arith) (omega arith)) (λ k d a l. high (suc k) d (omega arith) (omega arith)))
    ∙ last i (omega arith)
  where
    last : (k : ℕ) → k ≤ length xs → greater x (last_of k xs) ≡ slice_get (x ∷ xs) k
    last zero l = refl
    last (suc k) l =
        let at = slice_get-get_or xs k x (omega arith) in
        let up = sorted 0 (suc k) x (omega arith) (omega arith) in
        ap (greater x) at ∙ ap (λ b. if b then Some (get_or xs k x) else Some x) (le_is x.amount (get_or xs k x).amount up) ∙ sym at

-- of limits that begin with 0 one is reached by each amount
pub one_reached : (xs : List Limit) (spent : ℕ) → AreLimits xs → reached xs spent ≡ None → ⊥
one_reached [] spent are none = let some = are.some in absurd (omega arith)
one_reached (x ∷ xs) spent are none =
    let low : nat_le x.amount spent ≡ true = le_is x.amount spent (let zero : x.amount ≡ 0 = are.first x in omega arith) in
    by (reached xs spent) (sym (ap (λ b. greatest (if b then x ∷ filter (λ (l : Limit). nat_le l.amount spent) xs else filter (λ (l : Limit). nat_le l.amount spent) xs)) low) ∙ none)
  where
    by : (o : Option Limit) → greater x o ≡ None → ⊥
    by None h = cc
    by (Some y) h = of (nat_le x.amount y.amount) h
      where
        of : (b : Bool) → (if b then Some y else Some x) ≡ None → ⊥
        of true h = cc
        of false h = cc
