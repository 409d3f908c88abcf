-- The heap of deadlines.
use Rattle.std.proofs.Common.{◌≡◌, ◌≤◌, ◌<◌, ◌==◌, nat_lt, ℕ, true, false, cond, List, [], ◌∷◌, length, Option, Some, None, IfSome, IsSome, All, map, slice_get, slice_index_or, refl, ap, ◌∙◌, subst, arith}
use Rattle.std.proofs.lemmas.Bool.Decides.{nat_tests}
use Rattle.std.proofs.lemmas.List.Elements.{All-from_recursion}
use Rattle.std.proofs.lemmas.List.Sorted.{IsPermutation-map}
use Rattle.std.specs.List.{AllByRecursion}
use Rattle.std.specs.List.Sorted.{IsPermutation}
use Rattle.std.specs.declared.cmp.Ordering.{Ordering}
use Rattle.std.specs.declared.cmp.Ordering.TheVariants.{Less, Equal, Greater}
use Rattle.std.specs.declared.cmp.Reverse.{Reverse}
use Rattle.std.specs.Ordering.{nat_cmp, ordering_then, is_lt}
use Rattle.std.specs.BinaryHeap.{IsUpperBound}
use Rattle.accounts.specs.declared.due.Due.{Due}
use Rattle.accounts.specs.Due.{due_cmp}

-- what is no greater in a comparison by two parts is no greater in the first
not_less : (a b : ℕ) (rest : Ordering) → is_lt (ordering_then (nat_cmp a b) rest) ≡ false → b ≤ a
not_less a b rest e = elim (nat_lt a b) as (λ t. nat_lt a b ≡ t → is_lt (ordering_then (cond t Less (cond (a == b) Equal Greater)) rest) ≡ false → b ≤ a) [
  | true ↦ λ t f. absurd (cc)
  | false ↦ λ t f. grind (arith, nat_tests)
] refl e

-- no deadline is sooner than that of the top
soonest : (x : Reverse Due) (hs : List (Reverse Due)) → IsUpperBound due_cmp x hs → AllByRecursion (λ (d : Due). (x.0).deadline ≤ d.deadline) (map (λ (r : Reverse Due). r.0) hs)
soonest x [] h = tt
soonest x (y ∷ hs) h = (not_less (y.0).deadline (x.0).deadline _ h.0, soonest x hs h.1)

pub least : (x : Reverse Due) (hs : List (Reverse Due)) → IsUpperBound due_cmp x hs → All (λ (d : Due). (x.0).deadline ≤ d.deadline) (map (λ (r : Reverse Due). r.0) hs)
least x hs h = All-from_recursion (λ (d : Due). (x.0).deadline ≤ d.deadline) _ (soonest x hs h)

-- the top of a heap that lost it
pub popped : (r : Option (Reverse Due)) (hs ks : List (Reverse Due)) (due : Due) → (0 < length hs → IsSome r) → IfSome r (λ x. x ≡ slice_index_or hs 0 x) → IfSome r (λ x. IsPermutation hs (x ∷ ks))
    → slice_get (map (λ (r : Reverse Due). r.0) hs) 0 ≡ Some due → IsPermutation (map (λ (r : Reverse Due). r.0) hs) (due ∷ map (λ (r : Reverse Due). r.0) ks)
popped None [] ks due some top moved e = absurd (cc)
popped None (h ∷ hs) ks due some top moved e = (let s = some (omega arith) in absurd (cc))
popped (Some x) [] ks due some top moved e = absurd (cc)
popped (Some x) (h ∷ hs) ks due some top moved e =
    let same : x.0 ≡ due = ap (λ (r : Reverse Due). r.0) top ∙ is_some h.0 due e in
    subst (λ d. IsPermutation (map (λ (r : Reverse Due). r.0) (h ∷ hs)) (d ∷ map (λ (r : Reverse Due). r.0) ks)) same (IsPermutation-map (λ (r : Reverse Due). r.0) (h ∷ hs) (x ∷ ks) moved)
  where
    is_some : (a b : Due) → Some a ≡ Some b → a ≡ b
    is_some a b e = cc
