-- What is taken from the front behind one identifier octet is spelled so.
use Rattle.std.proofs.Common.{◌≡◌, ℕ, ◌<◌, inl, inr, cond, eqb, ltb, List, [], ◌∷◌, ◌++◌, length, take, drop, Option, Some, None, sym, ap, ◌∙◌, subst, arith}
use Rattle.std.specs.Prelude.{IfSome, option_and_then}
use Rattle.std.specs.Option.{option_map}
use Rattle.std.proofs.lemmas.Bool.{ltb-false, eqb-true}
use Rattle.std.proofs.lemmas.List.{take-append-drop, length-take, length-append}
use Rattle.ber.specs.Octets.{length_at, definite_at, contents_at}
use Rattle.ber.specs.Spelling.{IsLength, IsSplit}
use Rattle.ber.proofs.Fronts.{chosen, some, some_is, then_some, IsFront, length_found}

split_found : (identifier : ℕ) (bytes contents rest : List ℕ) → contents_at identifier bytes ≡ Some (contents, rest) → IsSplit identifier bytes contents rest
split_found identifier [] contents rest e = absurd cc
split_found identifier (first ∷ bs) contents rest e =
    elim (chosen (eqb first identifier) (option_and_then definite_at (length_at bs)) None (Some (contents, rest)) e) [
      | inl h ↦
          let d = then_some (length_at bs) definite_at (contents, rest) h.1 in
          let n = then_some d.0.0 (λ (n : ℕ). cond (ltb (length d.0.1) n) None (some (take n d.0.1, drop n d.0.1))) (contents, rest) d.2 in
          elim (chosen (ltb (length d.0.1) n.0) None (some (take n.0 d.0.1, drop n.0 d.0.1)) (Some (contents, rest)) n.2) [
            | inl k ↦ absurd (let w = k.1 in cc)
            | inr k ↦
                let pair = some_is (take n.0 d.0.1, drop n.0 d.0.1) (contents, rest) k.1 in
                let contents-is : take n.0 d.0.1 ≡ contents = ap (λ (p : List ℕ × List ℕ). p.0) pair in
                let f = length_found bs d.0.0 d.0.1 d.1 in
                let long = ltb-false _ _ k.0 in
                let count : n.0 ≡ length contents = omega (arith, length-take n.0 d.0.1, ap length contents-is) in
                let front-is : IsLength f.0 n.0 = subst (λ (o : Option ℕ). IsFront f.0 o) n.1 f.1 in
                let body-is : d.0.1 ≡ contents ++ rest = sym (take-append-drop n.0 d.0.1) ∙ ap (λ (p : List ℕ × List ℕ). p.0 ++ p.1) pair in
                (f.0, subst (λ (m : ℕ). IsLength f.0 m) count front-is, ap (λ (b : ℕ). b ∷ bs) (eqb-true _ _ h.0) ∙ ap (λ (z : List ℕ). identifier ∷ z) (f.2 ∙ ap (λ (z : List ℕ). f.0 ++ z) body-is))
          ]
      | inr h ↦ absurd (let w = h.1 in cc)
    ]

pub is_split : {X : Type 0} (view : X → List ℕ × List ℕ) (identifier : ℕ) (bytes : List ℕ) (o : Option X) → option_map view o ≡ contents_at identifier bytes → IfSome o (λ x. IsSplit identifier bytes (view x).0 (view x).1)
is_split view identifier bytes None h = tt
is_split view identifier bytes (Some x) h = split_found identifier bytes (view x).0 (view x).1 (sym h)

pub is_shorter : {X : Type 0} (view : X → List ℕ × List ℕ) (identifier : ℕ) (bytes : List ℕ) (o : Option X) → option_map view o ≡ contents_at identifier bytes → IfSome o (λ x. length (view x).1 < length bytes)
is_shorter view identifier bytes None h = tt
is_shorter view identifier bytes (Some x) h =
    let s = split_found identifier bytes (view x).0 (view x).1 (sym h) in
    omega (arith, ap length s.2, length-append s.0 ((view x).0 ++ (view x).1), length-append (view x).0 (view x).1)
