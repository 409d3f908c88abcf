-- A list whose elements are replaced in place, one after another.
use Rattle.std.proofs.Common.{◌≡◌, ℕ, suc, zero, ◌+◌, ◌<◌, List, [], ◌∷◌, ◌++◌, length, set, take, drop, map, get_or, refl, ◌∙◌, ap, arith, add-one}

set_mapped : {A : Type 0} (f : A → A) (xs : List A) (i : ℕ) (d : A) → i < length xs → set (map f (take i xs) ++ drop i xs) i (f (get_or xs i d)) ≡ map f (take (suc i) xs) ++ drop (suc i) xs
set_mapped f [] i d h = absurd (omega arith)
set_mapped f (x ∷ xs) zero d h = refl
set_mapped f (x ∷ xs) (suc i) d h = ap (λ ys. f x ∷ ys) (set_mapped f xs i d (omega arith))

get_mapped : {A : Type 0} (f : A → A) (xs : List A) (i : ℕ) (d : A) → i < length xs → get_or (map f (take i xs) ++ drop i xs) i d ≡ get_or xs i d
get_mapped f [] i d h = absurd (omega arith)
get_mapped f (x ∷ xs) zero d h = refl
get_mapped f (x ∷ xs) (suc i) d h = get_mapped f xs i d (omega arith)

-- one more of them is replaced
pub mapped_more : {A : Type 0} (f : A → A) (xs ys : List A) (i : ℕ) (d y : A) → i < length xs → ys ≡ map f (take i xs) ++ drop i xs → y ≡ f (get_or ys i d) → set ys i y ≡ map f (take (i + 1) xs) ++ drop (i + 1) xs
mapped_more f xs ys i d y h so_far made =
    ap (λ z. set ys i z) (made ∙ ap f (ap (λ zs. get_or zs i d) so_far ∙ get_mapped f xs i d h)) ∙ ap (λ zs. set zs i (f (get_or xs i d))) so_far
    ∙ set_mapped f xs i d h ∙ rw add-one refl
