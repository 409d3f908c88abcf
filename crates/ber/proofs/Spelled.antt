-- What is spelled so and conforms is read, whatever follows.
use Rattle.std.proofs.Common.{◌≡◌, ℕ, suc, ◌+◌, ◌-◌, ◌^◌, ◌<◌, ◌≤◌, inl, inr, Bool, true, false, eqb, List, [], ◌∷◌, ◌++◌, length, Some, None, Ok, refl, ap, ◌∙◌, subst, append_assoc, arith}
use Rattle.std.specs.Prelude.{nat_lt}
use Rattle.std.proofs.lemmas.Bool.{le-ltb, eqb-true, ne_eqb}
use Rattle.std.proofs.lemmas.List.{take_at, drop_at, length-append, append-nil}
use Rattle.ber.specs.declared.tag.Tag.{Tag}
use Rattle.ber.specs.declared.grammar.Step.TheVariants as steps
use Rattle.ber.specs.Octets.{tag_at, length_at}
use Rattle.ber.specs.Spelling.{IsIdentifier, IsLength, IsFramed, SpellsInside, SpellsAll}
use Rattle.ber.specs.Element.{Element, primitive, constructed, Elements, none, more, tag_is}
use Rattle.ber.specs.Grammar.{Rules, Conforms, AllConform}
use Rattle.ber.specs.Reading.{Inside, after, end_at, item_with, items_with, inside_at}
use Rattle.ber.proofs.Turns.{turn, inside_is}
use Rattle.ber.proofs.Fronts.{some, tag_again, length_again}
use Rattle.ber.proofs.Found.{Ends}

identifier_some : (tag : List ℕ) (t : Tag) → IsIdentifier tag t → 1 ≤ length tag
identifier_some [] t h = absurd h
identifier_some (b ∷ bs) t h = omega arith

not_end : (definite : Bool) (bytes : List ℕ) (t : Tag) (rest : List ℕ) → tag_at bytes ≡ Some (t, rest) → end_at definite bytes ≡ None
not_end definite [] t rest e = absurd cc
not_end definite (b ∷ []) t rest e = refl
not_end true (b ∷ c ∷ bs) t rest e = refl
not_end false (b ∷ c ∷ bs) t rest e = by (eqb b 0) refl where
  by : (zero_first : Bool) → eqb b 0 ≡ zero_first → end_at false (b ∷ c ∷ bs) ≡ None
  by true is =
      let b-is = eqb-true _ _ is in
      let none_read : tag_at (0 ∷ c ∷ bs) ≡ Some (t, rest) = subst (λ (n : ℕ). tag_at (n ∷ c ∷ bs) ≡ Some (t, rest)) b-is e in
      absurd cc
  by false is = rw is refl

not_empty : (bytes : List ℕ) (t : Tag) (rest : List ℕ) → tag_at bytes ≡ Some (t, rest) → eqb (length bytes) 0 ≡ false
not_empty [] t rest e = absurd cc
not_empty (b ∷ bs) t rest e = ne_eqb _ _ (λ (h : length (b ∷ bs) ≡ 0). omega arith)

first_turn : {S : Type 0} (r : Rules S) (inside : Inside S) (turns : ℕ) (definite : Bool) (s : S) (around at : ℕ) (bytes : List ℕ) → 1 ≤ turns
    → items_with r inside turns definite s around at bytes ≡ turn r inside (turns - 1) definite s around at bytes (end_at definite bytes)
unfolding items_with
first_turn r inside turns definite s around at bytes lt =
    let k : turns ≡ suc (turns - 1) = omega arith in
    let start : items_with r inside (suc (turns - 1)) definite s around at bytes ≡ turn r inside (turns - 1) definite s around at bytes (end_at definite bytes) = refl in
    ap (λ (n : ℕ). items_with r inside n definite s around at bytes) k ∙ start

pub item_again : {S : Type 0} (r : Rules S) (inside : Inside S) (s outer inner : S) (around at : ℕ) (tag front rest : List ℕ) (e : Element) → IsIdentifier tag (tag_is e) → r.enter s (tag_is e) ≡ steps.Into outer inner
    → ((place : ℕ) → inside inner (tag_is e) at place (front ++ rest) ≡ Ok (e, rest)) → item_with r inside s around at (tag ++ (front ++ rest)) ≡ Ok (outer, e, rest)
unfolding item_with
item_again r inside s outer inner around at tag front rest e id enters h =
    rw (tag_again tag (tag_is e) (front ++ rest) id, enters, h (after at (tag ++ (front ++ rest)) (front ++ rest))) refl

ends_here : (definite : Bool) (back rest : List ℕ) → Ends definite back rest → end_at definite (back ++ rest) ≡ Some rest
ends_here true back rest h = rw (h.0, h.1) refl
ends_here false back rest h = rw h refl

primitive_again : (class number : ℕ) (contents : List ℕ) {S : Type 0} (r : Rules S) (levels : ℕ) (s : S) (at place : ℕ) (bytes rest front : List ℕ) → length bytes < 2 ^ 63 → 1 ≤ levels → IsLength front (length contents) → bytes ≡ front ++ contents → r.takes s contents ≡ true
    → inside_at r levels s (record { class = class; constructed = false; number = number }) at place (bytes ++ rest) ≡ Ok (primitive class number contents, rest)
primitive_again class number contents r levels s at place bytes rest front lt some is-len parts takes =
    let t : Tag = record { class = class; constructed = false; number = number } in
    let n = length contents in
    let small : length contents < 2 ^ 63 = omega (arith, length-append front contents, ap length parts) in
    let e : bytes ++ rest ≡ front ++ (contents ++ rest) = rw parts (append_assoc front contents rest) in
    let read : length_at (bytes ++ rest) ≡ Some (Some (length contents), contents ++ rest) = ap length_at e ∙ length_again front (length contents) (contents ++ rest) small is-len in
    let is = inside_is r levels s t at place (bytes ++ rest) (Some (length contents)) (contents ++ rest) some read in
    let long : nat_lt (length (contents ++ rest)) (length contents) ≡ false = le-ltb _ _ (omega (arith, length-append contents rest)) in
    rw (is, long, take_at contents rest (length contents) refl, drop_at contents rest (length contents) refl, takes) refl

constructed_again : (class number : ℕ) (inner : Elements) {S : Type 0} (r : Rules S) (levels : ℕ) (s : S) (at place : ℕ) (bytes rest front contents back : List ℕ) → length bytes < 2 ^ 63 → 1 ≤ levels → IsFramed front (length contents) back → bytes ≡ front ++ (contents ++ back)
    → ((turns : ℕ) (definite : Bool) (place : ℕ) (back rest : List ℕ) → length contents < turns → Ends definite back rest → items_with r (inside_at r (levels - 1)) turns definite s at place (contents ++ (back ++ rest)) ≡ Ok (inner, rest))
    → inside_at r levels s (record { class = class; constructed = true; number = number }) at place (bytes ++ rest) ≡ Ok (constructed class number inner, rest)
constructed_again class number inner r levels s at place bytes rest front contents back lt some (inl (is-len, back-is)) parts h =
    let t : Tag = record { class = class; constructed = true; number = number } in
    let small : length contents < 2 ^ 63 = omega (arith, length-append front (contents ++ back), length-append contents back, ap length parts) in
    let e : bytes ++ rest ≡ front ++ (contents ++ rest) = rw (parts, back-is, append-nil contents) (append_assoc front contents rest) in
    let read : length_at (bytes ++ rest) ≡ Some (Some (length contents), contents ++ rest) = ap length_at e ∙ length_again front (length contents) (contents ++ rest) small is-len in
    let is = inside_is r levels s t at place (bytes ++ rest) (Some (length contents)) (contents ++ rest) some read in
    let long : nat_lt (length (contents ++ rest)) (length contents) ≡ false = le-ltb _ _ (omega (arith, length-append contents rest)) in
    let all = h (length contents + 1) true (after place (bytes ++ rest) (contents ++ rest)) [] [] (omega arith) (refl, refl) in
    let whole : items_with r (inside_at r (levels - 1)) (length contents + 1) true s at (after place (bytes ++ rest) (contents ++ rest)) contents ≡ Ok (inner, []) = rw (append-nil contents) at all in
    rw (is, long, take_at contents rest (length contents) refl, drop_at contents rest (length contents) refl, whole) refl
constructed_again class number inner r levels s at place bytes rest front contents back lt some (inr (front-is, back-is)) parts h =
    let t : Tag = record { class = class; constructed = true; number = number } in
    let body = contents ++ (0 ∷ 0 ∷ rest) in
    let e : bytes ++ rest ≡ 128 ∷ (contents ++ (0 ∷ 0 ∷ rest)) = rw (parts, front-is, back-is) (ap (λ (z : List ℕ). 128 ∷ z) (append_assoc contents (0 ∷ 0 ∷ []) rest)) in
    let read : length_at (bytes ++ rest) ≡ Some (None, contents ++ (0 ∷ 0 ∷ rest)) = ap length_at e in
    let is = inside_is r levels s t at place (bytes ++ rest) None (contents ++ (0 ∷ 0 ∷ rest)) some read in
    let all = h (length (contents ++ (0 ∷ 0 ∷ rest)) + 1) false (after place (bytes ++ rest) (contents ++ (0 ∷ 0 ∷ rest))) (0 ∷ 0 ∷ []) rest (omega (arith, length-append contents (0 ∷ 0 ∷ rest))) refl in
    rw (is, all) refl

more_again : (e : Element) (es : Elements) {S : Type 0} (r : Rules S) (inside : Inside S) (turns : ℕ) (definite : Bool) (s outer inner : S) (around at : ℕ) (bytes back rest tag front others : List ℕ) → 1 ≤ turns
    → IsIdentifier tag (tag_is e) → r.enter s (tag_is e) ≡ steps.Into outer inner → bytes ≡ tag ++ (front ++ others)
    → ((place : ℕ) → inside inner (tag_is e) at place (front ++ (others ++ (back ++ rest))) ≡ Ok (e, others ++ (back ++ rest)))
    → ((at : ℕ) → items_with r inside (turns - 1) definite outer around at (others ++ (back ++ rest)) ≡ Ok (es, rest))
    → items_with r inside turns definite s around at (bytes ++ (back ++ rest)) ≡ Ok (more e es, rest)
more_again e es r inside turns definite s outer inner around at bytes back rest tag front others some id enters parts one next =
    let left = others ++ (back ++ rest) in
    let regrouped : bytes ++ (back ++ rest) ≡ tag ++ (front ++ (others ++ (back ++ rest))) = rw parts (simp append_assoc) in
    let all = tag ++ (front ++ (others ++ (back ++ rest))) in
    let read = tag_again tag (tag_is e) (front ++ (others ++ (back ++ rest))) id in
    let first = first_turn r inside turns definite s around at (tag ++ (front ++ (others ++ (back ++ rest)))) some in
    let item = item_again r inside s outer inner around at tag front (others ++ (back ++ rest)) e id enters one in
    let whole : items_with r inside turns definite s around at (tag ++ (front ++ (others ++ (back ++ rest)))) ≡ Ok (more e es, rest) =
    rw (
      first,
      not_end definite (tag ++ (front ++ (others ++ (back ++ rest)))) (tag_is e) (front ++ (others ++ (back ++ rest))) read,
      not_empty (tag ++ (front ++ (others ++ (back ++ rest)))) (tag_is e) (front ++ (others ++ (back ++ rest))) read,
      item,
      next (after at (tag ++ (front ++ (others ++ (back ++ rest)))) (others ++ (back ++ rest))),
    ) refl in
    ap (λ (z : List ℕ). items_with r inside turns definite s around at z) regrouped ∙ whole

none_again : {S : Type 0} (r : Rules S) (inside : Inside S) (turns : ℕ) (definite : Bool) (s : S) (around at : ℕ) (bytes back rest : List ℕ) → 1 ≤ turns → Ends definite back rest → bytes ≡ [] → r.whole s ≡ true
    → items_with r inside turns definite s around at (bytes ++ (back ++ rest)) ≡ Ok (none, rest)
none_again r inside turns definite s around at bytes back rest some ends is whole =
    let start : items_with r inside turns definite s around at (back ++ rest) ≡ Ok (none, rest) = rw (first_turn r inside turns definite s around at (back ++ rest) some, ends_here definite back rest ends, whole) refl in
    ap (λ (z : List ℕ). items_with r inside turns definite s around at (z ++ (back ++ rest))) is ∙ start

mutual
  pub again_inside : (e : Element) {S : Type 0} (r : Rules S) (levels : ℕ) (s : S) (at place : ℕ) (bytes rest : List ℕ) → length bytes < 2 ^ 63 → SpellsInside levels bytes e → Conforms r s e
      → inside_at r levels s (tag_is e) at place (bytes ++ rest) ≡ Ok (e, rest)
  again_inside (primitive class number contents) r levels s at place bytes rest lt spells takes =
      primitive_again class number contents r levels s at place bytes rest spells.1 lt spells.0 spells.2 spells.3 takes
  again_inside (constructed class number inner) r levels s at place bytes rest lt spells conform =
      let within : length spells.2 < 2 ^ 63 = omega (arith, length-append spells.1 (spells.2 ++ spells.3), length-append spells.2 spells.3, ap length spells.6) in
      constructed_again class number inner r levels s at place bytes rest spells.1 spells.2 spells.3 lt spells.0 spells.4 spells.6
      (λ turns definite place back rest enough ends. again_all inner r (levels - 1) turns definite s at place spells.2 back rest within enough ends spells.5 conform)

  pub again_all : (es : Elements) {S : Type 0} (r : Rules S) (levels turns : ℕ) (definite : Bool) (s : S) (around at : ℕ) (bytes back rest : List ℕ) → length bytes < 2 ^ 63 → length bytes < turns → Ends definite back rest
      → SpellsAll levels bytes es → AllConform r s es → items_with r (inside_at r levels) turns definite s around at (bytes ++ (back ++ rest)) ≡ Ok (es, rest)
  again_all none r levels turns definite s around at bytes back rest lt enough ends spells whole = none_again r (inside_at r levels) turns definite s around at bytes back rest (omega arith) ends spells whole
  again_all (more e es) r levels turns definite s around at bytes back rest lt enough ends spells conform =
      let len = length-append spells.0 (spells.1 ++ spells.2) in
      let len2 = length-append spells.1 spells.2 in
      let total = ap length spells.6 in
      let some = identifier_some spells.0 (tag_is e) spells.3 in
      more_again e es r (inside_at r levels) turns definite s conform.0 conform.1 around at bytes back rest spells.0 spells.1 spells.2 (omega arith) spells.3 conform.2 spells.6
      (λ place. again_inside e r levels conform.1 at place spells.1 (spells.2 ++ (back ++ rest)) (omega arith) spells.4 conform.3)
      (λ at. again_all es r levels (turns - 1) definite conform.0 around at spells.2 back rest (omega arith) (omega arith) ends spells.5 conform.4)
