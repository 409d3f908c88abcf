-- Elements that a loop takes one after the other.
use Rattle.std.proofs.Common.{◌≡◌, ℕ, ◌+◌, ◌<◌, Option, Some, None, refl, sym, ap, ◌∙◌, arith}
use Rattle.ber.specs.Element.{Element, Elements, none, more, first_of}
use Rattle.records.specs.Reading.{over}

-- how many there are
abbrev pub size : Elements → ℕ
size none = 0
size (more e es) = 1 + size es

abbrev some_of : Element → Elements → Option (Element × Elements)
some_of e es = Some (e, es)

abbrev nothing : Option (Element × Elements)
nothing = None

pair_same : (x y : Element × Elements) → some_of x.0 x.1 ≡ some_of y.0 y.1 → (x.0 ≡ y.0) × (x.1 ≡ y.1)
pair_same x y h = let e : (let p : Element × Elements = (x.0, x.1) in p) ≡ (y.0, y.1) = cc in (ap (λ (p : Element × Elements). p.0) e, ap (λ (p : Element × Elements). p.1) e)

pub is_more : (left : Elements) (e : Element) (rest : Elements) → some_of e rest ≡ first_of left → left ≡ more e rest
is_more none e rest h = absurd cc
is_more (more d ds) e rest h = let s = pair_same (e, rest) (d, ds) h in ap (λ (x : Element). more x ds) (sym s.0) ∙ ap (λ (y : Elements). more e y) (sym s.1)

pub is_none : (left : Elements) → nothing ≡ first_of left → left ≡ none
is_none none h = refl
is_none (more d ds) h = absurd cc

pub step : {A : Type 0} (f : A → Element → A) (a b all : A) (left : Elements) (e : Element) (rest : Elements) → some_of e rest ≡ first_of left → b ≡ f a e → over f a left ≡ all → over f b rest ≡ all
step f a b all left e rest first is so_far = ap (λ x. over f x rest) is ∙ ap (λ (l : Elements). over f a l) (sym (is_more left e rest first)) ∙ so_far

pub stop : {A : Type 0} (f : A → Element → A) (a all : A) (left : Elements) → nothing ≡ first_of left → over f a left ≡ all → a ≡ all
stop f a all left first so_far = ap (λ (l : Elements). over f a l) (sym (is_none left first)) ∙ so_far

pub shrinks : (left : Elements) (e : Element) (rest : Elements) → some_of e rest ≡ first_of left → size rest < size left
shrinks left e rest first = let h = ap size (is_more left e rest first) in omega arith
