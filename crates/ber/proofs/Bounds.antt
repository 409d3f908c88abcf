-- What octets below 256 spell is within the bounds on tags and depth.
use Rattle.std.proofs.Common.{◌≡◌, ℕ, suc, ◌-◌, ◌/◌, ◌^◌, ◌<◌, ◌≤◌, inl, inr, Bool, true, false, eqb, List, [], ◌∷◌, ◌++◌, length, take, refl, sym, ap, ◌∙◌, subst, arith}
use Rattle.std.specs.Prelude.{◌&&◌, Result, Ok, Err, IfOk}
use Rattle.std.specs.Prelude.{get_or, drop}
use Rattle.std.proofs.lemmas.Bool.{ne_eqb}
use Rattle.std.proofs.lemmas.List.{take-append-drop}
use Rattle.ber.specs.declared.tag.Tag.{Tag}
use Rattle.ber.specs.Element.{Element, primitive, constructed, Elements, none, more, tag_is}
use Rattle.ber.specs.Spelling.{tag_of, IsIdentifier, SpellsInside, SpellsAll, Spells}
use Rattle.ber.specs.Written.{IsTag, IsBounded, AreBounded}
use Rattle.ber.specs.declared.refusal.BerRefusal.{BerRefusal}
use Rattle.ber.specs.Grammar.{Rules}
use Rattle.ber.proofs.Front.{IsRead}

-- each octet is below 256
abbrev pub AreOctets : List ℕ → Type 0
AreOctets [] = Unit {0}
AreOctets (b ∷ bs) = (b < 256) × AreOctets bs

left : (a b : List ℕ) → AreOctets (a ++ b) → AreOctets a
left [] b h = tt
left (x ∷ xs) b h = (h.0, left xs b h.1)

right : (a b : List ℕ) → AreOctets (a ++ b) → AreOctets b
right [] b h = h
right (x ∷ xs) b h = right xs b h.1

and_false : (b : Bool) → (b && false) ≡ false
and_false true = refl
and_false false = refl

named : (first number : ℕ) → first < 256 → number < 2 ^ 32 → (eqb (first / 64) 0 && eqb number 0) ≡ false → IsTag (tag_of first number)
named first number small below other = (omega arith, below, other)

high_other : (first number : ℕ) → 31 ≤ number → (eqb (first / 64) 0 && eqb number 0) ≡ false
high_other first number le = ap (λ (b : Bool). eqb (first / 64) 0 && b) (ne_eqb number 0 (λ (q : number ≡ 0). omega arith)) ∙ and_false (eqb (first / 64) 0)

tag_bounded : (bytes : List ℕ) (t : Tag) → AreOctets bytes → IsIdentifier bytes t → IsTag t
tag_bounded [] t all h = absurd h
tag_bounded (first ∷ octets) t all (number, is, inl h) = subst IsTag (sym is) (named first number all.0 (let lt = h.2 in omega arith) h.3)
tag_bounded (first ∷ octets) t all (number, is, inr h) = subst IsTag (sym is) (named first number all.0 h.2 (high_other first number h.1))

mutual
  inside_bounded : (e : Element) (levels : ℕ) (bytes : List ℕ) → AreOctets bytes → IsTag (tag_is e) → SpellsInside levels bytes e → IsBounded levels e
  inside_bounded (primitive class number contents) levels bytes all tag h = (tag, h.0)
  inside_bounded (constructed class number inner) levels bytes all tag h =
      let parts : AreOctets (h.1 ++ (h.2 ++ h.3)) = subst AreOctets h.6 all in
      (tag, h.0, all_bounded inner (levels - 1) h.2 (left h.2 h.3 (right h.1 (h.2 ++ h.3) parts)) h.5)

  all_bounded : (es : Elements) (levels : ℕ) (bytes : List ℕ) → AreOctets bytes → SpellsAll levels bytes es → AreBounded levels es
  all_bounded none levels bytes all h = tt
  all_bounded (more e es) levels bytes all h =
      let parts : AreOctets (h.0 ++ (h.1 ++ h.2)) = subst AreOctets h.6 all in
      let behind = right h.0 (h.1 ++ h.2) parts in
      (inside_bounded e levels h.1 (left h.1 h.2 behind) (tag_bounded h.0 (tag_is e) (left h.0 (h.1 ++ h.2) parts) h.3) h.4, all_bounded es levels h.2 (right h.1 h.2 behind) h.5)

pub spelled_bounded : (e : Element) (levels : ℕ) (bytes : List ℕ) → AreOctets bytes → Spells levels bytes e → IsBounded levels e
spelled_bounded e levels bytes all h =
    let parts : AreOctets (h.0 ++ h.1) = subst AreOctets h.4 all in
    inside_bounded e levels h.1 (right h.0 h.1 parts) (tag_bounded h.0 (tag_is e) (left h.0 h.1 parts) h.2) h.3

pub octets_from_places : (bytes : List ℕ) → ((i : ℕ) → i < length bytes → get_or bytes i 0 < 256) → AreOctets bytes
octets_from_places [] h = tt
octets_from_places (b ∷ bs) h = (h 0 (omega arith), octets_from_places bs (λ i within. h (suc i) (omega arith)))

front_octets : (n : ℕ) (bytes : List ℕ) → AreOctets bytes → AreOctets (take n bytes)
front_octets n bytes all = left (take n bytes) (drop n bytes) (subst AreOctets (sym (take-append-drop n bytes)) all)

pub is_bounded : {X S : Type 0} (r : Rules S) (s : S) (bytes : List ℕ) (view : X → Element × ℕ) (result : Result X BerRefusal) → AreOctets bytes → IfOk result (λ x. IsRead r s bytes (view x)) → IfOk result (λ x. IsBounded 16 (view x).0)
is_bounded r s bytes view (Ok x) all h = spelled_bounded (view x).0 16 (take (view x).1 bytes) (front_octets (view x).1 bytes all) h.1
is_bounded r s bytes view (Err e) all h = tt
