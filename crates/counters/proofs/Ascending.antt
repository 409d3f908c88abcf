-- Ascending names: the place of one, and one more in its place.
use Rattle.std.proofs.Common.{◌≡◌, ℕ, zero, suc, ◌<◌, ◌||◌, Bool, true, false, List, [], ◌∷◌, length, get_or, Result, Ok, Err, refl, sym, ap, ◌∙◌, arith, bytes_eq, add-one}
use Rattle.std.specs.Prelude.{MatchResult}
use Rattle.std.specs.List.{insert}
use Rattle.std.specs.List.Sorted.{IsSortedBy, IsBinarySearchResult, IsSearchInRange}
use Rattle.std.specs.Ordering.{nat_cmp, is_lt, match_ordering}
use Rattle.std.specs.declared.cmp.Ordering.{Ordering}
use Rattle.std.specs.declared.cmp.Ordering.TheVariants.{Less, Equal, Greater}
use Rattle.std.specs.Cmp.Lexicographic.{slice_cmp, nat_list_cmp_total}
use Rattle.std.proofs.lemmas.List.Sorted.{searchable_from_sorted}
use Rattle.counters.specs.Names.{with_name, is_among, IsBelow, AreAscending, IsThere, IsGap}
use Rattle.counters.proofs.Order as order

-- what is below all is below each
pub below_at : (name : List ℕ) (names : List (List ℕ)) → IsBelow name names → (k : ℕ) (d : List ℕ) → k < length names → slice_cmp nat_cmp name (get_or names k d) ≡ Less
below_at name [] h k d l = absurd (omega arith)
below_at name (first ∷ rest) h zero d l = h.0
below_at name (first ∷ rest) h (suc k) d l = below_at name rest h.1 k d (omega arith)

-- a name is below the next
next_below : (names : List (List ℕ)) → AreAscending names → (k : ℕ) (d : List ℕ) → suc k < length names → slice_cmp nat_cmp (get_or names k d) (get_or names (suc k) d) ≡ Less
next_below [] h k d l = absurd (omega arith)
next_below (first ∷ rest) h zero d l = below_at first rest h.0 zero d (omega arith)
next_below (first ∷ rest) h (suc k) d l = next_below rest h.1 k d (omega arith)

-- ascending names are in order
in_order : (names : List (List ℕ)) → AreAscending names → IsSortedBy (λ a b. is_lt (slice_cmp nat_cmp a b)) names
in_order names h = λ k d a l. ap is_lt (ap (λ j. slice_cmp nat_cmp (get_or names j d) (get_or names k d)) (add-one k) ∙ order.above (get_or names k d) (get_or names (suc k) d) (next_below names h k d (omega arith)))

-- what a search says
pub searched_is : (names : List (List ℕ)) (name : List ℕ) (r : Result ℕ ℕ) → AreAscending names → IsSearchInRange r (length names) → IsBinarySearchResult (λ one. slice_cmp nat_cmp one name) names r
    → MatchResult r (IsThere names name) (IsGap names name)
searched_is names name (Ok at) up within found = record { within = within; is = order.alike _ _ (found []) }
searched_is names name (Err at) up within found =
    let parted = found (searchable_from_sorted nat_list_cmp_total (λ one. one) names name (in_order names up)) in
    record { within = within; below = λ k l. parted.0 k [] (omega arith) l; above = λ k a l. parted.1 k [] a l }

-- a name that is there is not added
pub with_there : (names : List (List ℕ)) (name : List ℕ) (at : ℕ) → AreAscending names → at < length names → get_or names at [] ≡ name → with_name names name ≡ names
with_there [] name at up l is = absurd (omega arith)
with_there (first ∷ rest) name zero up l is = ap (λ o. match_ordering o (name ∷ first ∷ rest) (first ∷ rest) (first ∷ with_name rest name)) (ap (slice_cmp nat_cmp name) is ∙ order.itself name)
with_there (first ∷ rest) name (suc k) up l is =
    let under : slice_cmp nat_cmp first name ≡ Less = ap (slice_cmp nat_cmp first) (sym is) ∙ below_at first rest up.0 k [] (omega arith) in
    ap (λ o. match_ordering o (name ∷ first ∷ rest) (first ∷ rest) (first ∷ with_name rest name)) (order.above first name under)
    ∙ ap (λ ns. first ∷ ns) (with_there rest name k up.1 (omega arith) is)

-- the rest after a gap
rest_gap : (first : List ℕ) (rest : List (List ℕ)) (name : List ℕ) (k : ℕ) → IsGap (first ∷ rest) name (suc k) → IsGap rest name k
rest_gap first rest name k gap = record { within = omega (arith, gap.within); below = λ j l. gap.below (suc j) (omega arith); above = λ j a l. gap.above (suc j) (omega arith) (omega arith) }

-- another is added at the gap
pub with_gap : (names : List (List ℕ)) (name : List ℕ) (at : ℕ) → IsGap names name at → with_name names name ≡ insert names at name
with_gap [] name zero gap = refl
with_gap [] name (suc k) gap = absurd (omega (arith, gap.within))
with_gap (first ∷ rest) name zero gap = ap (λ o. match_ordering o (name ∷ first ∷ rest) (first ∷ rest) (first ∷ with_name rest name)) (order.below first name (gap.above 0 (omega arith) (omega arith)))
with_gap (first ∷ rest) name (suc k) gap =
    ap (λ o. match_ordering o (name ∷ first ∷ rest) (first ∷ rest) (first ∷ with_name rest name)) (order.above first name (gap.below 0 (omega arith)))
    ∙ ap (λ ns. first ∷ ns) (with_gap rest name k (rest_gap first rest name k gap))

-- what is below all and another is below all with it
below_more : (low name : List ℕ) (names : List (List ℕ)) → IsBelow low names → slice_cmp nat_cmp low name ≡ Less → IsBelow low (with_name names name)
below_more low name [] h l = (l, tt)
below_more low name (first ∷ rest) h l = by (slice_cmp nat_cmp name first) (below_more low name rest h.1 l)
  where
    by : (o : Ordering) → IsBelow low (with_name rest name) → IsBelow low (match_ordering o (name ∷ first ∷ rest) (first ∷ rest) (first ∷ with_name rest name))
    by Less more = (l, h)
    by Equal more = h
    by Greater more = (h.0, more)

-- what is below the first is below all
below_all : (name first : List ℕ) (rest : List (List ℕ)) → slice_cmp nat_cmp name first ≡ Less → IsBelow first rest → IsBelow name rest
below_all name first [] l h = tt
below_all name first (next ∷ rest) l h = (nat_list_cmp_total.trans name first next l h.0, below_all name first rest l h.1)

-- names ascend with one more
pub still_ascending : (names : List (List ℕ)) (name : List ℕ) → AreAscending names → AreAscending (with_name names name)
still_ascending [] name up = (tt, tt)
still_ascending (first ∷ rest) name up = by (slice_cmp nat_cmp name first) refl (still_ascending rest name up.1)
  where
    by : (o : Ordering) → slice_cmp nat_cmp name first ≡ o → AreAscending (with_name rest name) → AreAscending (match_ordering o (name ∷ first ∷ rest) (first ∷ rest) (first ∷ with_name rest name))
    by Less e more = ((e, below_all name first rest e up.0), up)
    by Equal e more = up
    by Greater e more = (below_more first name rest up.0 (order.below name first e), more)

-- a name that is there is among them
pub among_there : (names : List (List ℕ)) (name : List ℕ) (at : ℕ) → at < length names → get_or names at [] ≡ name → is_among name names ≡ true
among_there [] name at l is = absurd (omega arith)
among_there (first ∷ rest) name zero l is = ap (λ b. b || is_among name rest) (order.same_bytes name first (sym is))
among_there (first ∷ rest) name (suc k) l is = ap (λ b. bytes_eq name first || b) (among_there rest name k (omega arith) is) ∙ or_true (bytes_eq name first)
  where
    or_true : (b : Bool) → (b || true) ≡ true
    or_true true = refl
    or_true false = refl

-- what is below all is not among them
pub among_below : (names : List (List ℕ)) (name : List ℕ) → IsBelow name names → is_among name names ≡ false
among_below [] name h = refl
among_below (first ∷ rest) name h = ap (λ b. b || is_among name rest) (order.other_bytes name first (order.less_not name first h.0)) ∙ among_below rest name h.1

-- what has a gap is not among them
pub among_gap : (names : List (List ℕ)) (name : List ℕ) (at : ℕ) → IsGap names name at → is_among name names ≡ false
among_gap [] name at gap = refl
among_gap (first ∷ rest) name zero gap =
    let over = order.below first name (gap.above 0 (omega arith) (omega arith)) in
    ap (λ b. b || is_among name rest) (order.other_bytes name first (order.less_not name first over))
    ∙ among_gap rest name zero (record { within = omega arith; below = λ j l. absurd (omega arith); above = λ j a l. gap.above (suc j) (omega arith) (omega arith) })
among_gap (first ∷ rest) name (suc k) gap =
    let under = order.above first name (gap.below 0 (omega arith)) in
    ap (λ b. b || is_among name rest) (order.other_bytes name first (order.greater_not name first under))
    ∙ among_gap rest name k (rest_gap first rest name k gap)
