-- Places in written ranges.
use Rattle.std.proofs.Common.{◌⊎◌, inl, inr, ⊎_elim, ℕ, ◌+◌, ◌≤◌, ◌<◌, List, [], ◌∷◌, ◌++◌, length, get_or, take, sym, subst}
use Rattle.std.proofs.lemmas.List.{take_more}
use Rattle.edge.specs.declared.disk_store.Span.{Span}
use Rattle.edge.specs.Stored.{IsCovered}

pub covered_left : (xs ys : List Span) (k : ℕ) → IsCovered xs k → IsCovered (xs ++ ys) k
covered_left [] ys k c = absurd c
covered_left (x ∷ xs) ys k (inl here) = inl here
covered_left (x ∷ xs) ys k (inr there) = inr (covered_left xs ys k there)

pub covered_right : (xs ys : List Span) (k : ℕ) → IsCovered ys k → IsCovered (xs ++ ys) k
covered_right [] ys k c = c
covered_right (x ∷ xs) ys k c = inr (covered_right xs ys k c)

pub covered_split : (xs ys : List Span) (k : ℕ) → IsCovered (xs ++ ys) k → IsCovered xs k ⊎ IsCovered ys k
covered_split [] ys k c = inr c
covered_split (x ∷ xs) ys k (inl here) = inl (inl here)
covered_split (x ∷ xs) ys k (inr there) = ⊎_elim (λ l. inl (inr l)) (λ r. inr r) (covered_split xs ys k there)

-- one turn of a loop over ranges
pub covered_turn : (spans : List Span) (i k : ℕ) (s : Span) → i < length spans → (IsCovered (take (i + 1) spans) k → ⊥) → (IsCovered (take i spans) k → ⊥) × (((get_or spans i s).at ≤ k) × (k < (get_or spans i s).at + (get_or spans i s).size) → ⊥)
covered_turn spans i k s here none = (
  λ before. none (subst (λ l. IsCovered l k) (sym (take_more spans i s here)) (covered_left (take i spans) (get_or spans i s ∷ []) k before)),
  λ now. none (subst (λ l. IsCovered l k) (sym (take_more spans i s here)) (covered_right (take i spans) (get_or spans i s ∷ []) k (inl now))),
)
