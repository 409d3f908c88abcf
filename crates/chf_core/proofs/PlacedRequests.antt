-- Kept requests in the order of their places: what is found by halves, and one more at the end.
use Rattle.std.proofs.Common.{◌≡◌, ◌<◌, ◌≤◌, ◌==◌, ◌+◌, ℕ, zero, suc, true, false, cond, List, [], ◌∷◌, ◌++◌, length, find, get_or, slice_get, Some, None, refl, ap, ◌∙◌, arith, ltb, ltb-true, ltb-false}
use Rattle.std.specs.List.{AllWithin}
use Rattle.std.specs.List.Sorted.{IsNonDecreasingBy}
use Rattle.chf_core.specs.declared.kept_request.KeptRequest.{KeptRequest}
use Rattle.chf_core.specs.Placed.{AreAscending, AreBelow, if_at}
use Rattle.chf_core.proofs.Places.{eq_no}

-- each place is at least the least
at_least : (least : ℕ) (rs : List KeptRequest) (j : ℕ) (d : KeptRequest)
    → AreAscending least rs → j < length rs → least ≤ (get_or rs j d).place
at_least least [] j d up l = absurd (omega arith)
at_least least (r ∷ rs) zero d up l = up.0
at_least least (r ∷ rs) (suc j) d up l =
    let h = at_least (r.place + 1) rs j d up.1 (omega arith) in
    let k = up.0 in
    omega arith

pub rising : (least : ℕ) (rs : List KeptRequest) → AreAscending least rs → IsNonDecreasingBy (λ (r : KeptRequest). r.place) rs
rising least [] up i j d w l = absurd (omega arith)
rising least (r ∷ rs) up zero zero d w l = omega arith
rising least (r ∷ rs) up zero (suc j) d w l =
    let h = at_least (r.place + 1) rs j d up.1 (omega arith) in
    omega arith
rising least (r ∷ rs) up (suc i) zero d w l = absurd (omega arith)
rising least (r ∷ rs) up (suc i) (suc j) d w l = rising (r.place + 1) rs up.1 i j d (omega arith) (omega arith)

-- what is above a place is not there
none_at : (p least : ℕ) (rs : List KeptRequest) → p < least → AreAscending least rs
    → find (λ (r : KeptRequest). r.place == p) rs ≡ None
none_at p least [] l up = refl
none_at p least (r ∷ rs) l up =
    let k = up.0 in
    ap (λ b. cond b (Some r) (find (λ (r : KeptRequest). r.place == p) rs)) (eq_no r.place p (λ e. let h : r.place ≡ p = e in omega arith))
    ∙ none_at p (r.place + 1) rs (omega arith) up.1

-- what is found at the first place that is not below
pub found_by_halves : (p least : ℕ) (rs : List KeptRequest) (i : ℕ) → AreAscending least rs
    → AllWithin (λ (r : KeptRequest). ltb r.place p ≡ true) rs 0 i
    → AllWithin (λ (r : KeptRequest). ltb r.place p ≡ false) rs i (length rs)
    → find (λ (r : KeptRequest). r.place == p) rs ≡ if_at p (slice_get rs i)
found_by_halves p least [] i up below above = refl
found_by_halves p least (r ∷ rs) zero up below above =
    let k : p ≤ r.place = ltb-false r.place p (above 0 r (omega arith) (omega arith)) in
    elim (r.place == p) as (λ b. (r.place == p) ≡ b → cond b (Some r) (find (λ (r : KeptRequest). r.place == p) rs) ≡ cond b (Some r) None) [
      | true ↦ λ e. refl
      | false ↦ λ e. none_at p (r.place + 1) rs (omega arith) up.1
    ] refl
found_by_halves p least (r ∷ rs) (suc i) up below above =
    let k : r.place < p = ltb-true r.place p (below 0 r (omega arith) (omega arith)) in
    ap (λ b. cond b (Some r) (find (λ (r : KeptRequest). r.place == p) rs)) (eq_no r.place p (λ e. let h : r.place ≡ p = e in omega arith))
    ∙ found_by_halves p (r.place + 1) rs i up.1
    (λ k d l m. below (suc k) d (omega arith) (omega arith))
    (λ k d l m. above (suc k) d (omega arith) (omega arith))

-- one more at the end
pub ascending_push : (least : ℕ) (rs : List KeptRequest) (x : KeptRequest) → least ≤ x.place → AreAscending least rs → AreBelow x.place rs
    → AreAscending least (rs ++ x ∷ [])
ascending_push least [] x l up below = (l, tt)
ascending_push least (r ∷ rs) x l up below =
    let k = below.0 in (up.0, ascending_push (r.place + 1) rs x (omega arith) up.1 below.1)

pub below_push : (n : ℕ) (rs : List KeptRequest) (x : KeptRequest) → x.place ≡ n → AreBelow n rs → AreBelow (n + 1) (rs ++ x ∷ [])
below_push n [] x e below = (omega arith, tt)
below_push n (r ∷ rs) x e below = let k = below.0 in (omega arith, below_push n rs x e below.1)

pub below_next : (n : ℕ) (rs : List KeptRequest) → AreBelow n rs → AreBelow (n + 1) rs
below_next n [] below = tt
below_next n (r ∷ rs) below = let k = below.0 in (omega arith, below_next n rs below.1)
