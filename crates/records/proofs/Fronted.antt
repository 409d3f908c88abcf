-- Elements that are written in front of others, the last one first.
use Rattle.std.proofs.Common.{◌≡◌, ◌≤◌, ℕ, eqb, true, false, List, [], ◌∷◌, ◌++◌, length, refl, sym, ap, ◌∙◌, arith}
use Rattle.std.proofs.lemmas.List.{append-nil, length-append}
use Rattle.std.proofs.lemmas.Bool.Decides.{nat_tests}
use Rattle.units.specs.declared.request.UnitUsage.{UnitUsage}
use Rattle.ber.specs.Element.{Element, Elements, constructed, none, more, joined}
use Rattle.ber.specs.Written.{written, onto}
use Rattle.records.specs.Written.{each, trigger_element, triggers_field, usage_element, usage_field}

-- an element in front of what stands
pub front : (e : Element) (new old all : List ℕ) → new ≡ written e ++ old → old ≡ all → new ≡ written e ++ all
front e new old all put is = put ∙ ap (λ (z : List ℕ). written e ++ z) is

-- one in front of nothing
pub alone : (e : Element) (new old : List ℕ) → new ≡ written e ++ old → old ≡ [] → new ≡ written e
alone e new old put is = front e new old [] put is ∙ append-nil (written e)

-- elements in front of others
pub onto-joined : (a b : Elements) (t : List ℕ) → onto (joined a b) t ≡ onto a (onto b t)
onto-joined none b t = refl
onto-joined (more e es) b t = ap (λ (z : List ℕ). written e ++ z) (onto-joined es b t)

pub two : (a b : Elements) (x y t : List ℕ) → x ≡ onto a y → y ≡ onto b t → x ≡ onto (joined a b) t
two a b x y t p q = p ∙ ap (λ (z : List ℕ). onto a z) q ∙ sym (onto-joined a b t)

pub three : (a b c : Elements) (x y z t : List ℕ) → x ≡ onto a y → y ≡ onto b z → z ≡ onto c t → x ≡ onto (joined a (joined b c)) t
three a b c x y z t p q r = two a (joined b c) x y t p (two b c y z t q r)

longer : (es : Elements) (t : List ℕ) → length t ≤ length (onto es t)
longer none t = omega arith
longer (more e es) t = let h = longer es t in omega (arith, length-append (written e) (onto es t))

-- what stood behind elements is no longer than all
pub fits : (es : Elements) (t new : List ℕ) (n : ℕ) → n ≡ length t → new ≡ onto es t → n ≤ length new
fits es t new n is all = omega (arith, longer es t, ap (λ (z : List ℕ). length z) all)

-- ---- a list, its last one first

last_first : {X : Type 0} (f : X → Element) (before : List X) (x : X) (t : List ℕ) → onto (each f (before ++ x ∷ [])) t ≡ onto (each f before) (written (f x) ++ t)
last_first f [] x t = refl
last_first f (y ∷ ys) x t = ap (λ (z : List ℕ). written (f y) ++ z) (last_first f ys x t)

pub fronted : {X : Type 0} (f : X → Element) (left before : List X) (last : X) (t new all : List ℕ) → left ≡ before ++ last ∷ [] → new ≡ written (f last) ++ t → onto (each f left) t ≡ all → onto (each f before) new ≡ all
fronted {X} f left before last t new all is put so_far =
    ap (λ (z : List ℕ). onto (each f before) z) put ∙ sym (last_first f before last t) ∙ ap (λ (l : List X). onto (each f l) t) (sym is) ∙ so_far

pub all_fronted : {X : Type 0} (f : X → Element) (left : List X) (t all : List ℕ) → length left ≡ 0 → onto (each f left) t ≡ all → t ≡ all
all_fronted f [] t all is so_far = so_far
all_fronted f (x ∷ xs) t all is so_far = absurd (omega arith)

-- ---- fields that are absent where a list is empty

pub no_triggers : (ts : List (List ℕ)) → eqb (length ts) 0 ≡ true → triggers_field ts ≡ none
no_triggers [] is = refl
no_triggers (t ∷ ts) is = absurd (grind (arith, nat_tests))

pub some_triggers : (ts : List (List ℕ)) → eqb (length ts) 0 ≡ false → triggers_field ts ≡ more (constructed 2 6 (each trigger_element ts)) none
some_triggers [] is = absurd (grind (arith, nat_tests))
some_triggers (t ∷ ts) is = refl

pub no_usage : (us : List UnitUsage) → eqb (length us) 0 ≡ true → usage_field us ≡ none
no_usage [] is = refl
no_usage (u ∷ us) is = absurd (grind (arith, nat_tests))

pub some_usage : (us : List UnitUsage) → eqb (length us) 0 ≡ false → usage_field us ≡ more (constructed 2 5 (each usage_element us)) none
some_usage [] is = absurd (grind (arith, nat_tests))
some_usage (u ∷ us) is = refl
