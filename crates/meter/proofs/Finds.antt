-- The first element that passes a test, by its place.
use Rattle.std.proofs.Common.{◌≡◌, ℕ, suc, zero, ◌<◌, ◌||◌, Bool, true, false, List, [], ◌∷◌, length, map, get_or, refl, sym, ◌∙◌, ap, arith, Some, None, is_some}
use Rattle.std.specs.List.{list_any, find, position, slice_get}
use Rattle.std.proofs.lemmas.Bool.Decides.{nat_tests}
use Rattle.std.proofs.lemmas.List.Quantifiers.{position-Some}

pub position_finds : {X : Type 0} (p : X → Bool) (xs : List X) → is_some (position p xs) ≡ list_any p xs
position_finds p [] = refl
position_finds p (x ∷ xs) = let h = position_finds p xs in grind (arith, nat_tests, h)

pub list_any-map : {X Y : Type 0} (p : Y → Bool) (f : X → Y) (xs : List X) → list_any p (map f xs) ≡ list_any (λ x. p (f x)) xs
list_any-map p f [] = refl
list_any-map p f (x ∷ xs) = ap (λ b. p (f x) || b) (list_any-map p f xs)

first_found : {X : Type 0} (p : X → Bool) (xs : List X) (i : ℕ) (x : X) → i < length xs → p (get_or xs i x) ≡ true → ((k : ℕ) → k < i → p (get_or xs k x) ≡ false) → find p xs ≡ Some (get_or xs i x)
first_found p [] i x l here before = absurd (omega arith)
first_found p (y ∷ ys) zero x l here before = rw here refl
first_found p (y ∷ ys) (suc i) x l here before = rw (before 0 (omega arith)) (first_found p ys i x (omega arith) here (λ k h. before (suc k) (omega arith)))

-- what is read at the place that `position` gives is what `find` gives
pub find_read : {X : Type 0} (p : X → Bool) (xs : List X) (i : ℕ) (x : X) → position p xs ≡ Some i → x ≡ get_or xs i x → find p xs ≡ Some x
find_read p xs i x at is =
    let here = position-Some p xs i x at in
    first_found p xs i x here.0 here.1 here.2 ∙ ap Some (sym is)

none_found : {X : Type 0} (p : X → Bool) (xs : List X) → list_any p xs ≡ false → find p xs ≡ None
none_found p [] h = refl
none_found p (x ∷ xs) h = let e = none_found p xs in grind (arith, e)

pub find_none : {X : Type 0} (p : X → Bool) (xs : List X) → position p xs ≡ None → find p xs ≡ None
find_none p xs none = none_found p xs (sym (position_finds p xs) ∙ ap is_some none)

-- what is read at a place within a list
pub got : {X : Type 0} (xs : List X) (i : ℕ) (x : X) → i < length xs → x ≡ get_or xs i x → slice_get xs i ≡ Some x
got [] i x l is = absurd (omega arith)
got (y ∷ ys) zero x l is = ap Some (sym is)
got (y ∷ ys) (suc i) x l is = got ys i x (omega arith) is
