-- What is read is spelled so and conforms, and what is spelled so and conforms is read.
use Rattle.std.proofs.Common.{◌≡◌, ℕ, zero, suc, ◌+◌, ◌-◌, inl, inr, Bool, true, false, cond, eqb, ltb, List, [], ◌∷◌, ◌++◌, length, take, drop, Option, Some, None, Result, Ok, Err, refl, sym, ap, ◌∙◌, subst, append_assoc, arith}
use Rattle.std.proofs.lemmas.Bool.{ltb-false, eqb-true}
use Rattle.std.proofs.lemmas.List.{take-append-drop, length-take, append-nil}
use Rattle.ber.specs.declared.tag.Tag.{Tag}
use Rattle.ber.specs.declared.grammar.Step.{Step}
use Rattle.ber.specs.declared.grammar.Step.TheVariants as steps
use Rattle.ber.specs.Octets.{tag_at, length_at}
use Rattle.ber.specs.Spelling.{IsIdentifier, IsLength, SpellsInside, SpellsAll}
use Rattle.ber.specs.Element.{Element, primitive, constructed, Elements, none, more, tag_is}
use Rattle.ber.specs.Grammar.{Rules, Conforms, AllConform}
use Rattle.ber.specs.Reading.{Inside, ◌>>=◌, or_fault, entering, after, end_at, closing, item_with, items_with, definite_with, contents_with, inside_at}
use Rattle.ber.proofs.Turns.{turn}
use Rattle.ber.proofs.Fronts.{chosen, some, some_is, Front, IsFront, tag_found, length_found}

pub bind_ok : {A B : Type 0} (r : Result A ℕ) (f : A → Result B ℕ) (y : B) → (r >>= f) ≡ Ok y → (x : A) × (r ≡ Ok x) × (f x ≡ Ok y)
bind_ok (Ok x) f y e = (x, refl, e)
bind_ok (Err d) f y e = absurd cc

abbrev done : {A : Type 0} → A → Result A ℕ
done x = Ok x

pub ok_is : {A : Type 0} (x y : A) → done x ≡ done y → x ≡ y
ok_is x y e = cc

or_fault_ok : {A : Type 0} (at : ℕ) (o : Option A) (y : A) → or_fault at o ≡ Ok y → o ≡ Some y
or_fault_ok at None y e = absurd cc
or_fault_ok at (Some x) y e = ap (λ (z : _). Some z) (ok_is x y e)

entering_ok : {S : Type 0} (around at : ℕ) (step : Step S) (states : S × S) → entering around at step ≡ Ok states → step ≡ steps.Into states.0 states.1
entering_ok around at (steps.Into outer inner) states e =
    let p = ok_is (outer, inner) states e in
    ap (λ (z : _ × _). steps.Into z.0 z.1) p
entering_ok around at steps.Here states e = absurd cc
entering_ok around at steps.Around states e = absurd cc

-- what was taken from the front spells the inside of an element of this tag
abbrev pub Taken : {S : Type 0} → Rules S → ℕ → S → Tag → List ℕ → Element × List ℕ → Type 0
Taken r levels s tag bytes x = Front (λ front. SpellsInside levels front x.0) bytes x.1 × (tag_is x.0 ≡ tag) × Conforms r s x.0

abbrev pub IsSound : {S : Type 0} → Rules S → ℕ → Inside S → Type 0
IsSound {S} r levels inside = (s : S) (tag : Tag) (at place : ℕ) (bytes : List ℕ) (x : Element × List ℕ) → inside s tag at place bytes ≡ Ok x → Taken r levels s tag bytes x

-- one element
pub record TakesItem {S : Type 0} (r : Rules S) (levels : ℕ) (s : S) (bytes : List ℕ) (x : S × Element × List ℕ) : Type 0 where
  pub tag : List ℕ
  pub front : List ℕ
  pub inner : S
  pub identifier : IsIdentifier tag (tag_is x.1)
  pub inside : SpellsInside levels front x.1
  pub enters : r.enter s (tag_is x.1) ≡ steps.Into x.0 inner
  pub conforms : Conforms r inner x.1
  pub parts : bytes ≡ tag ++ (front ++ x.2)

pub item_found : {S : Type 0} (r : Rules S) (levels : ℕ) (inside : Inside S) → IsSound r levels inside → (s : S) (around at : ℕ) (bytes : List ℕ) (x : S × Element × List ℕ) → item_with r inside s around at bytes ≡ Ok x → TakesItem r levels s bytes x
unfolding item_with
item_found r levels inside sound s around at bytes x e =
    let a = bind_ok (or_fault at (tag_at bytes)) (λ t. entering around at (r.enter s t.0) >>= λ states. inside states.1 t.0 at (after at bytes t.1) t.1 >>= λ x. Ok (states.0, x.0, x.1)) x e in
    let t = a.0 in
    let b = bind_ok (entering around at (r.enter s t.0)) (λ states. inside states.1 t.0 at (after at bytes t.1) t.1 >>= λ x. Ok (states.0, x.0, x.1)) x a.2 in
    let c = bind_ok (inside b.0.1 t.0 at (after at bytes t.1) t.1) (λ x. Ok (b.0.0, x.0, x.1)) x b.2 in
    let x-is = ok_is (b.0.0, c.0.0, c.0.1) x c.2 in
    let taken = sound b.0.1 t.0 at (after at bytes t.1) t.1 c.0 c.1 in
    let id = tag_found bytes t.0 t.1 (or_fault_ok at (tag_at bytes) t a.1) in
    let step = entering_ok around at (r.enter s t.0) b.0 b.1 in
    subst (λ (z : _ × Element × List ℕ). TakesItem r levels s bytes z) x-is (record {
      tag = id.0;
      front = taken.0.0;
      inner = b.0.1;
      identifier = rw taken.1 id.1;
      inside = taken.0.1;
      enters = rw taken.1 step;
      conforms = taken.2;
      parts = id.2 ∙ ap (λ (z : List ℕ). id.0 ++ z) taken.0.2;
    })

-- the end of contents: nothing at the end of a definite length, 00 00 of an indefinite one
abbrev pub Ends : Bool → List ℕ → List ℕ → Type 0
Ends true back rest = (back ≡ []) × (rest ≡ [])
Ends false back rest = back ≡ 0 ∷ 0 ∷ []

end_found : (definite : Bool) (bytes rest : List ℕ) → end_at definite bytes ≡ Some rest → (back : List ℕ) × Ends definite back rest × (bytes ≡ back ++ rest)
end_found true [] rest e = let rest-is : [] ≡ rest = some_is [] rest e in ([], (refl, sym rest-is), rest-is)
end_found false [] rest e = absurd cc
end_found definite (b ∷ []) rest e = absurd cc
end_found true (b ∷ c ∷ bs) rest e = absurd cc
end_found false (b ∷ c ∷ bs) rest e =
    elim (chosen (eqb b 0) (cond (eqb c 0) (some bs) None) None (Some rest) e) [
      | inl h ↦ elim (chosen (eqb c 0) (some bs) None (Some rest) h.1) [
        | inl k ↦
            let b-is = eqb-true _ _ h.0 in
            let c-is = eqb-true _ _ k.0 in
            let rest-is = some_is bs rest k.1 in
            (0 ∷ 0 ∷ [], refl, rw (b-is, c-is, rest-is) refl)
        | inr k ↦ absurd (let w = k.1 in cc)
      ]
      | inr h ↦ absurd (let w = h.1 in cc)
    ]

pub record TakesItems {S : Type 0} (r : Rules S) (levels : ℕ) (definite : Bool) (s : S) (bytes : List ℕ) (x : Elements × List ℕ) : Type 0 where
  pub contents : List ℕ
  pub back : List ℕ
  pub spells : SpellsAll levels contents x.0
  pub conform : AllConform r s x.0
  pub ends : Ends definite back x.1
  pub parts : bytes ≡ contents ++ (back ++ x.1)

closed_found : {S : Type 0} (r : Rules S) (levels : ℕ) (definite : Bool) (s : S) (around : ℕ) (bytes rest : List ℕ) (x : Elements × List ℕ) (whole : Bool) → r.whole s ≡ whole → end_at definite bytes ≡ Some rest
    → closing whole around rest ≡ Ok x → TakesItems r levels definite s bytes x
closed_found r levels definite s around bytes rest x true w is e =
    let f = end_found definite bytes rest is in
    subst (λ (z : Elements × List ℕ). TakesItems r levels definite s bytes z) (ok_is (none, rest) x e) (record { contents = []; back = f.0; spells = refl; conform = w; ends = f.1; parts = f.2 })
closed_found r levels definite s around bytes rest x false w is e = absurd cc

more_found : {S : Type 0} (r : Rules S) (levels : ℕ) (definite : Bool) (s : S) (bytes : List ℕ) (a : S × Element × List ℕ) (b : Elements × List ℕ)
    → TakesItem r levels s bytes a → TakesItems r levels definite a.0 a.2 b → TakesItems r levels definite s bytes (more a.1 b.0, b.1)
more_found r levels definite s bytes a b one others = record {
  contents = one.tag ++ (one.front ++ others.contents);
  back = others.back;
  spells = (one.tag, one.front, others.contents, one.identifier, one.inside, others.spells, refl);
  conform = (a.0, one.inner, one.enters, one.conforms, others.conform);
  ends = others.ends;
  parts = one.parts ∙ (rw others.parts (simp append_assoc));
}

turn_found : {S : Type 0} (r : Rules S) (levels : ℕ) (inside : Inside S) → IsSound r levels inside → (turns : ℕ) (definite : Bool) (s : S) (around at : ℕ) (bytes : List ℕ) (x : Elements × List ℕ)
    → ((s : S) (around at : ℕ) (bytes : List ℕ) (x : Elements × List ℕ) → items_with r inside turns definite s around at bytes ≡ Ok x → TakesItems r levels definite s bytes x)
    → (o : Option (List ℕ)) → end_at definite bytes ≡ o → turn r inside turns definite s around at bytes o ≡ Ok x → TakesItems r levels definite s bytes x
turn_found r levels inside sound turns definite s around at bytes x later (Some rest) is e = closed_found r levels definite s around bytes rest x (r.whole s) refl is e
turn_found r levels inside sound turns definite s around at bytes x later None is e =
    elim (chosen (eqb (length bytes) 0) (Err around) (item_with r inside s around at bytes >>= λ x. items_with r inside turns definite x.0 around (after at bytes x.2) x.2 >>= λ y. Ok (more x.1 y.0, y.1)) (Ok x) e) [
      | inl h ↦ absurd (let w = h.1 in cc)
      | inr h ↦
          let a = bind_ok (item_with r inside s around at bytes) (λ x. items_with r inside turns definite x.0 around (after at bytes x.2) x.2 >>= λ y. Ok (more x.1 y.0, y.1)) x h.1 in
          let b = bind_ok (items_with r inside turns definite a.0.0 around (after at bytes a.0.2) a.0.2) (λ y. Ok (more a.0.1 y.0, y.1)) x a.2 in
          let one = item_found r levels inside sound s around at bytes a.0 a.1 in
          let others = later a.0.0 around (after at bytes a.0.2) a.0.2 b.0 b.1 in
          subst (λ (z : Elements × List ℕ). TakesItems r levels definite s bytes z) (ok_is (more a.0.1 b.0.0, b.0.1) x b.2) (more_found r levels definite s bytes a.0 b.0 one others)
    ]

items_found : {S : Type 0} (r : Rules S) (levels : ℕ) (inside : Inside S) → IsSound r levels inside → (turns : ℕ) (definite : Bool) (s : S) (around at : ℕ) (bytes : List ℕ) (x : Elements × List ℕ)
    → items_with r inside turns definite s around at bytes ≡ Ok x → TakesItems r levels definite s bytes x
unfolding items_with
items_found r levels inside sound zero definite s around at bytes x e = absurd cc
items_found r levels inside sound (suc turns) definite s around at bytes x e =
    turn_found r levels inside sound turns definite s around at bytes x (λ s around at bytes x e. items_found r levels inside sound turns definite s around at bytes x e) (end_at definite bytes) refl e

with_form : (tag : Tag) (form : Bool) → tag.constructed ≡ form → (let t : Tag = record { class = tag.class; constructed = form; number = tag.number } in t) ≡ tag
with_form tag form is = ap (λ (b : Bool). let t : Tag = record { class = tag.class; constructed = b; number = tag.number } in t) (sym is)

regroup : (front body contents back rest : List ℕ) → body ≡ contents ++ (back ++ rest) → front ++ body ≡ (front ++ (contents ++ back)) ++ rest
regroup front body contents back rest e = rw e (simp append_assoc)

moved : (k m : ℕ) (a b : List ℕ) (es : Elements) → m ≡ k → b ≡ a → SpellsAll k a es → SpellsAll m b es
moved k m a b es p q h = subst (λ (n : ℕ). SpellsAll n b es) (sym p) (subst (λ (z : List ℕ). SpellsAll k z es) (sym q) h)

contents_found : {S : Type 0} (r : Rules S) (k : ℕ) (inside : Inside S) → IsSound r k inside → (s : S) (tag : Tag) (at place : ℕ) (len : Option ℕ) (front body : List ℕ) (x : Element × List ℕ) → IsFront front len
    → contents_with r inside s tag at place len body ≡ Ok x → Taken r (suc k) s tag (front ++ body) x
contents_found r k inside sound s tag at place None front body x is e =
    elim (chosen tag.constructed (items_with r inside (length body + 1) false s at place body >>= λ x. Ok (constructed tag.class tag.number x.0, x.1)) (Err at) (Ok x) e) [
      | inl h ↦
          let b = bind_ok (items_with r inside (length body + 1) false s at place body) (λ x. Ok (constructed tag.class tag.number x.0, x.1)) x h.1 in
          let f = items_found r k inside sound (length body + 1) false s at place body b.0 b.1 in
          let same : suc k - 1 ≡ k = omega arith in
          let inner : SpellsAll (suc k - 1) f.contents b.0.0 = rw same f.spells in
          let parts : front ++ body ≡ (front ++ (f.contents ++ f.back)) ++ b.0.1 = regroup front body f.contents f.back b.0.1 f.parts in
          subst (λ (z : Element × List ℕ). Taken r (suc k) s tag (front ++ body) z) (ok_is (constructed tag.class tag.number b.0.0, b.0.1) x b.2)
          ((front ++ (f.contents ++ f.back), (omega arith, front, f.contents, f.back, inr (is, f.ends), inner, refl), parts), with_form tag true h.0, f.conform)
      | inr h ↦ absurd (let w = h.1 in cc)
    ]
contents_found r k inside sound s tag at place (Some n) front body x is e =
    elim (chosen (ltb (length body) n) (Err at) (definite_with r inside s tag at place (take n body) (drop n body)) (Ok x) e) [
      | inl h ↦ absurd (let w = h.1 in cc)
      | inr long ↦
          let within = ltb-false _ _ long.0 in
          let len : length (take n body) ≡ n = omega (arith, length-take n body) in
          let whole = take-append-drop n body in
          let is-len : IsLength front (length (take n body)) = rw len is in
          elim (chosen tag.constructed (items_with r inside (length (take n body) + 1) true s at place (take n body) >>= λ x. Ok (constructed tag.class tag.number x.0, drop n body))
          (cond (r.takes s (take n body)) (Ok (primitive tag.class tag.number (take n body), drop n body)) (Err at)) (Ok x) long.1) [
            | inl h ↦
                let b = bind_ok (items_with r inside (length (take n body) + 1) true s at place (take n body)) (λ x. Ok (constructed tag.class tag.number x.0, drop n body)) x h.1 in
                let f = items_found r k inside sound (length (take n body) + 1) true s at place (take n body) b.0 b.1 in
                let same : suc k - 1 ≡ k = omega arith in
                let all : take n body ≡ f.contents = f.parts ∙ rw (f.ends.0, f.ends.1) (append-nil f.contents) in
                let inner : SpellsAll (suc k - 1) (take n body) b.0.0 = moved k (suc k - 1) f.contents (take n body) b.0.0 same all f.spells in
                let parts : front ++ body ≡ (front ++ (take n body ++ [])) ++ drop n body = rw append-nil (rw append_assoc (ap (λ (z : List ℕ). front ++ z) (sym whole))) in
                subst (λ (z : Element × List ℕ). Taken r (suc k) s tag (front ++ body) z) (ok_is (constructed tag.class tag.number b.0.0, drop n body) x b.2)
                ((front ++ (take n body ++ []), (omega arith, front, take n body, [], inl (is-len, refl), inner, refl), parts), with_form tag true h.0, f.conform)
            | inr h ↦
                elim (chosen (r.takes s (take n body)) (Ok (primitive tag.class tag.number (take n body), drop n body)) (Err at) (Ok x) h.1) [
                  | inl w ↦
                      let parts : front ++ body ≡ (front ++ take n body) ++ drop n body = rw append_assoc (ap (λ (z : List ℕ). front ++ z) (sym whole)) in
                      subst (λ (z : Element × List ℕ). Taken r (suc k) s tag (front ++ body) z) (ok_is (primitive tag.class tag.number (take n body), drop n body) x w.1)
                      ((front ++ take n body, (omega arith, front, is-len, refl), parts), with_form tag false h.0, w.0)
                  | inr w ↦ absurd (let v = w.1 in cc)
                ]
          ]
    ]

pub inside_found : {S : Type 0} (r : Rules S) (levels : ℕ) → IsSound r levels (inside_at r levels)
unfolding inside_at
inside_found r zero s tag at place bytes x e = absurd cc
inside_found r (suc k) s tag at place bytes x e =
    let a = bind_ok (or_fault at (length_at bytes)) (λ len. contents_with r (inside_at r k) s tag at (after place bytes len.1) len.0 len.1) x e in
    let f = length_found bytes a.0.0 a.0.1 (or_fault_ok at (length_at bytes) a.0 a.1) in
    subst (λ (z : List ℕ). Taken r (suc k) s tag z x) (sym f.2) (contents_found r k (inside_at r k) (inside_found r k) s tag at (after place bytes a.0.1) a.0.0 f.0 a.0.1 x f.1 a.2)
