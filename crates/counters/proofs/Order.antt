-- The order of texts by their bytes, and tests of numbers.
use Rattle.std.proofs.Common.{◌≡◌, ℕ, ◌<◌, ◌≤◌, true, false, nat_lt, nat_le, List, sym, ap, ◌∙◌, arith, bytes_eq}
use Rattle.std.specs.Ordering.{nat_cmp, ordering_reverse}
use Rattle.std.specs.declared.cmp.Ordering.TheVariants.{Less, Equal, Greater}
use Rattle.std.specs.Cmp.Lexicographic.{slice_cmp, nat_list_cmp_total}
use Rattle.std.specs.FinMap.{slice_cmp-IsAntisymmetric, nat_cmp-IsAntisymmetric}
use Rattle.std.proofs.lemmas.Cmp.{tied_itself}
use Rattle.std.proofs.lemmas.Bool.Decides.{nat_tests}
use Rattle.std.proofs.lemmas.Bool.{false_from_ne_true}
use Rattle.std.proofs.lemmas.Slice.Eq.{bytes_eq-Decides}

pub itself : (x : List ℕ) → slice_cmp nat_cmp x x ≡ Equal
itself x = tied_itself nat_list_cmp_total x

pub alike : (x y : List ℕ) → slice_cmp nat_cmp x y ≡ Equal → x ≡ y
alike = slice_cmp-IsAntisymmetric nat_cmp-IsAntisymmetric

pub above : (x y : List ℕ) → slice_cmp nat_cmp x y ≡ Less → slice_cmp nat_cmp y x ≡ Greater
above x y h = nat_list_cmp_total.antisymm y x ∙ ap ordering_reverse h

pub below : (x y : List ℕ) → slice_cmp nat_cmp x y ≡ Greater → slice_cmp nat_cmp y x ≡ Less
below x y h = nat_list_cmp_total.antisymm y x ∙ ap ordering_reverse h

pub same_bytes : (x y : List ℕ) → x ≡ y → bytes_eq x y ≡ true
same_bytes x y e = (bytes_eq-Decides x y).1 e

pub bytes_same : (x y : List ℕ) → bytes_eq x y ≡ true → x ≡ y
bytes_same x y h = (bytes_eq-Decides x y).0 h

pub other_bytes : (x y : List ℕ) → (x ≡ y → ⊥) → bytes_eq x y ≡ false
other_bytes x y apart = false_from_ne_true _ (λ h. apart (bytes_same x y h))

-- what is below another is not the same
pub less_not : (x y : List ℕ) → slice_cmp nat_cmp x y ≡ Less → x ≡ y → ⊥
less_not x y h e = let i = itself x in let t : slice_cmp nat_cmp x y ≡ Equal = ap (slice_cmp nat_cmp x) (sym e) ∙ i in cc

-- nor is what is above it
pub greater_not : (x y : List ℕ) → slice_cmp nat_cmp x y ≡ Greater → x ≡ y → ⊥
greater_not x y h e = let i = itself x in let t : slice_cmp nat_cmp x y ≡ Equal = ap (slice_cmp nat_cmp x) (sym e) ∙ i in cc

pub is_lt : (a b : ℕ) → a < b → nat_lt a b ≡ true
is_lt a b l = grind (arith, nat_tests)

pub lt_is : (a b : ℕ) → nat_lt a b ≡ true → a < b
lt_is a b l = grind (arith, nat_tests)

pub le_is : (a b : ℕ) → a ≤ b → nat_le a b ≡ true
le_is a b l = grind (arith, nat_tests)
