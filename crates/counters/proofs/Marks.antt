-- Marks of the names that are named, one named one after another.
use Rattle.std.proofs.Common.{◌≡◌, ℕ, zero, suc, ◌+◌, ◌<◌, ◌≤◌, ◌||◌, ◌⊎◌, inl, inr, Bool, true, false, List, [], ◌∷◌, length, get_or, take, refl, sym, ap, ◌∙◌, arith, bytes_eq}
use Rattle.std.specs.Ordering.{nat_cmp}
use Rattle.std.specs.declared.cmp.Ordering.TheVariants.{Less}
use Rattle.std.specs.Cmp.Lexicographic.{slice_cmp}
use Rattle.std.proofs.Math.ListN.{set}
use Rattle.std.proofs.lemmas.Bool.{cases_eq, cases_lt}
use Rattle.std.proofs.lemmas.List.{get_or-set_same, get_or-set_other}
use Rattle.std.proofs.lemmas.List.Folds.{list_any_more}
use Rattle.counters.specs.Names.{is_among, AreAscending, IsThere, IsGap}
use Rattle.counters.proofs.Order as order
use Rattle.counters.proofs.Ascending.{below_at}

-- a name is below a later one
later : (names : List (List ℕ)) → AreAscending names → (i j : ℕ) → i < j → j < length names → slice_cmp nat_cmp (get_or names i []) (get_or names j []) ≡ Less
later [] up i j l within = absurd (omega arith)
later (first ∷ rest) up i zero l within = absurd (omega arith)
later (first ∷ rest) up zero (suc j) l within = below_at first rest up.0 j [] (omega arith)
later (first ∷ rest) up (suc i) (suc j) l within = later rest up.1 i j (omega arith) (omega arith)

-- names at different places are different
apart : (names : List (List ℕ)) → AreAscending names → (i j : ℕ) → i < length names → j < length names → (i ≡ j → ⊥) → bytes_eq (get_or names i []) (get_or names j []) ≡ false
apart names up i j li lj ne = by (cases_lt i j)
  where
    by : (i < j) ⊎ (j ≤ i) → bytes_eq (get_or names i []) (get_or names j []) ≡ false
    by (inl l) = order.other_bytes (get_or names i []) (get_or names j []) (order.less_not (get_or names i []) (get_or names j []) (later names up i j l lj))
    by (inr l) = order.other_bytes (get_or names i []) (get_or names j []) (order.greater_not (get_or names i []) (get_or names j []) (order.above (get_or names j []) (get_or names i []) (later names up j i (omega arith) li)))

or_true : (a b : Bool) → true ≡ (a || (b || true))
or_true true b = refl
or_true false true = refl
or_true false false = refl

or_false : (a b : Bool) → (a || b) ≡ (a || (b || false))
or_false true b = refl
or_false false true = refl
or_false false false = refl

-- what is among those named so far and the next
among_more : (named : List (List ℕ)) (i : ℕ) (name x : List ℕ) → i < length named → name ≡ get_or named i name → is_among x (take (i + 1) named) ≡ (is_among x (take i named) || bytes_eq x name)
among_more named i name x l is = list_any_more (bytes_eq x) named i name l ∙ ap (λ n. is_among x (take i named) || bytes_eq x n) (sym is)

-- the marks with that of one name more
pub marked : (names named : List (List ℕ)) (flags : List Bool) (all : Bool) (i at : ℕ) (name : List ℕ) → AreAscending names → length names ≤ length flags → i < length named → name ≡ get_or named i name → IsThere names name at
    → ((k : ℕ) → k < length names → get_or flags k false ≡ (all || is_among (get_or names k []) (take i named)))
    → (k : ℕ) → k < length names → get_or (set flags at true) k false ≡ (all || is_among (get_or names k []) (take (i + 1) named))
marked names named flags all i at name up size l is there before k within = by (cases_eq k at)
  where
    more : is_among (get_or names k []) (take (i + 1) named) ≡ (is_among (get_or names k []) (take i named) || bytes_eq (get_or names k []) name)
    more = among_more named i name (get_or names k []) l is

    by : (k ≡ at) ⊎ (k ≡ at → ⊥) → get_or (set flags at true) k false ≡ (all || is_among (get_or names k []) (take (i + 1) named))
    by (inl e) =
        ap (λ j. get_or (set flags at true) j false) e ∙ get_or-set_same flags at true false (let w = there.within in omega arith)
        ∙ or_true all (is_among (get_or names k []) (take i named))
        ∙ sym (ap (λ b. all || b) (more ∙ ap (λ b. is_among (get_or names k []) (take i named) || b) (order.same_bytes (get_or names k []) name (ap (λ j. get_or names j []) e ∙ there.is))))
    by (inr ne) =
        get_or-set_other flags at k true false ne ∙ before k within ∙ or_false all (is_among (get_or names k []) (take i named))
        ∙ sym (ap (λ b. all || b) (more ∙ ap (λ b. is_among (get_or names k []) (take i named) || b) (ap (bytes_eq (get_or names k [])) (sym there.is) ∙ apart names up k at within there.within ne)))

-- a name that is none of these marks none
pub unmarked : (names named : List (List ℕ)) (flags : List Bool) (all : Bool) (i at : ℕ) (name : List ℕ) → i < length named → name ≡ get_or named i name → IsGap names name at
    → ((k : ℕ) → k < length names → get_or flags k false ≡ (all || is_among (get_or names k []) (take i named)))
    → (k : ℕ) → k < length names → get_or flags k false ≡ (all || is_among (get_or names k []) (take (i + 1) named))
unmarked names named flags all i at name l is gap before k within =
    before k within ∙ or_false all (is_among (get_or names k []) (take i named))
    ∙ sym (ap (λ b. all || b) (among_more named i name (get_or names k []) l is ∙ ap (λ b. is_among (get_or names k []) (take i named) || b) (other (cases_lt k at))))
  where
    other : (k < at) ⊎ (at ≤ k) → bytes_eq (get_or names k []) name ≡ false
    other (inl low) = order.other_bytes (get_or names k []) name (order.less_not (get_or names k []) name (gap.below k low))
    other (inr high) = order.other_bytes (get_or names k []) name (order.greater_not (get_or names k []) name (gap.above k high within))
