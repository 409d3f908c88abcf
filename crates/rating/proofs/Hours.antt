-- Periods whose hours ascend: one more at the end, and what its place says of the others.
use Rattle.std.proofs.Common.{◌≡◌, ℕ, ◌-◌, ◌<◌, max, Bool, true, false, List, [], ◌∷◌, ◌++◌, length, get_or, nat_lt, Some, refl, ◌∙◌, ap, arith}
use Rattle.std.specs.List.{list_all, slice_get}
use Rattle.std.specs.List.Sorted.{IsNonDecreasingBy}
use Rattle.std.proofs.lemmas.Option.{slice_get_within, get_or_from_slice_get}
use Rattle.std.proofs.lemmas.List.Sums.{AllPass-from_list_all, list_all-from_AllPass}
use Rattle.std.proofs.lemmas.List.Folds.{list_all_at}
use Rattle.std.proofs.lemmas.List.Sorted.{IsNonDecreasingBy-push}
use Rattle.rating.specs.declared.terms.Kind.{Kind}
use Rattle.rating.specs.declared.period.Period.{Period}
use Rattle.rating.specs.Grant.{top_price, unit_price}
use Rattle.rating.proofs.Numbers.{is_lt, lt_is}

-- an hour is above those of all periods where it is above the last
pub later_by_last : (xs : List Period) (last : Period) (hour : ℕ) → IsNonDecreasingBy (λ (p : Period). p.hour) xs → slice_get xs (length xs - 1) ≡ Some last → list_all (λ p. nat_lt p.hour hour) xs ≡ nat_lt last.hour hour
later_by_last xs last hour sorted is = by (nat_lt last.hour hour) refl
  where
    within : length xs - 1 < length xs
    within = slice_get_within xs (length xs - 1) last is

    by : (b : Bool) → nat_lt last.hour hour ≡ b → list_all (λ p. nat_lt p.hour hour) xs ≡ b
    by true e = list_all-from_AllPass (λ p. nat_lt p.hour hour) xs (λ k d l.
        let below = sorted k (length xs - 1) d (omega arith) within in
        let at = ap (λ (p : Period). p.hour) (get_or_from_slice_get xs (length xs - 1) last d is) in
        let lt = lt_is last.hour hour e in
        is_lt (get_or xs k d).hour hour (omega (arith, below, at, lt)))
    by false e = list_all_at (λ p. nat_lt p.hour hour) xs (length xs - 1) last within (ap (λ (p : Period). nat_lt p.hour hour) (get_or_from_slice_get xs (length xs - 1) last last is) ∙ e)

-- hours still do not fall with one more above all
pub sorted_more : (xs : List Period) (p : Period) → IsNonDecreasingBy (λ (p : Period). p.hour) xs → list_all (λ q. nat_lt q.hour p.hour) xs ≡ true → IsNonDecreasingBy (λ (p : Period). p.hour) (xs ++ p ∷ [])
sorted_more xs p sorted later = IsNonDecreasingBy-push (λ (p : Period). p.hour) xs p sorted (λ d some.
    let lt = lt_is _ _ (AllPass-from_list_all (λ q. nat_lt q.hour p.hour) xs later (length xs - 1) d (omega arith)) in omega (arith, lt))

-- the top price with one more
pub top_more : (kind : Kind) (xs : List Period) (p : Period) → top_price kind (xs ++ p ∷ []) ≡ max (top_price kind xs) (unit_price kind p)
top_more kind [] p = omega arith
top_more kind (x ∷ xs) p = let more = top_more kind xs p in omega (arith, more)
