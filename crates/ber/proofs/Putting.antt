-- Octets put into a buffer one behind the other, and one in front of the other.
use Rattle.std.proofs.Common.{◌≡◌, ℕ, ◌+◌, ◌-◌, ◌≤◌, Bool, true, List, ◌++◌, length, take, drop, refl, sym, ap, ◌∙◌, append_assoc, arith}
use Rattle.std.proofs.lemmas.List.{length-append, length-take, take-append-drop, drop-drop, drop_at}
use Rattle.std.specs.Prelude.{Result, Ok, Err, OnOk}
use Rattle.ber.specs.declared.tag.Tag.{Tag}
use Rattle.ber.specs.Element.{constructed, Elements, none, more}
use Rattle.ber.specs.Written.{length_octets, identifier, written_all, written, onto}
use Rattle.ber.specs.Placed.{IsPut}

-- octets, and others behind them
pub put_twice : (a b c : List ℕ) (at m e : ℕ) (x y : List ℕ) → IsPut a b at x m → IsPut b c m y e → IsPut a c at (x ++ y) e
put_twice a b c at m e x y f s =
    let end : e ≡ m + length y = s.1 in (
      s.0 ∙ ap (λ (z : List ℕ). z ++ y) f.0 ∙ append_assoc (take at a) x y,
      omega (arith, f.1, s.1, length-append x y),
      s.2 ∙ f.2,
      s.3 ∙ ap (λ (k : ℕ). drop k b) end ∙ sym (drop-drop (length y) m b) ∙ ap (λ (z : List ℕ). drop (length y) z) f.3 ∙ drop-drop (length y) m a ∙ ap (λ (k : ℕ). drop k a) (sym end),
    )

-- octets in front of those that stand behind them
pub put_before : (a b : List ℕ) (at e : ℕ) (x : List ℕ) → at ≤ length a → IsPut a b at x e → drop at b ≡ x ++ drop e a
put_before a b at e x le p =
    let front : length (take at a) ≡ at = omega (arith, length-take at a) in
    let whole : b ≡ take at a ++ (x ++ drop e a) = sym (take-append-drop e b) ∙ ap (λ (z : List ℕ). z ++ drop e b) p.0 ∙ ap (λ (z : List ℕ). (take at a ++ x) ++ z) p.3 ∙ append_assoc (take at a) x (drop e a) in
    ap (λ (z : List ℕ). drop at z) whole ∙ drop_at (take at a) (x ++ drop e a) at front

-- an identifier and a length in front
pub header_before : (a b c : List ℕ) (first place free m e : ℕ) (x y : List ℕ) → place ≤ length a → first ≤ place → m ≡ free → e ≡ place → IsPut a b place y m → IsPut b c first x e → drop first c ≡ x ++ (y ++ drop free a)
header_before a b c first place free m e x y low lower is at s f =
    let le : first ≤ length b = omega (arith, s.2) in
    put_before b c first e x le f ∙ ap (λ (k : ℕ). x ++ drop k b) at ∙ ap (λ (z : List ℕ). x ++ z) (put_before a b place m y low s ∙ ap (λ (k : ℕ). y ++ drop k a) is)

-- elements and others behind them
pub onto-all : (es : Elements) (behind : List ℕ) → onto es behind ≡ written_all es ++ behind
onto-all none behind = refl
onto-all (more e es) behind = ap (λ (z : List ℕ). written e ++ z) (onto-all es behind) ∙ sym (append_assoc (written e) (written_all es) behind)

-- an element around those that stand in front
around : (tag : Tag) (inner : Elements) (old rest new : List ℕ) (behind : ℕ) → tag.constructed ≡ true → length rest ≡ behind → old ≡ onto inner rest → new ≡ identifier tag ++ (length_octets (length old - behind) ++ old)
    → new ≡ written (constructed tag.class tag.number inner) ++ rest
around tag inner old rest new behind form is all put =
    let w : List ℕ = written_all inner in
    let old-is : old ≡ w ++ rest = all ∙ onto-all inner rest in
    let count : length old - behind ≡ length w = omega (arith, ap length old-is, length-append w rest) in
    let t : tag ≡ record { class = tag.class; constructed = true; number = tag.number } = ap (λ (b : Bool). let z : Tag = record { class = tag.class; constructed = b; number = tag.number } in z) form in
    put ∙ ap (λ (z : Tag). identifier z ++ (length_octets (length old - behind) ++ old)) t
    ∙ ap (λ (k : ℕ). identifier (record { class = tag.class; constructed = true; number = tag.number }) ++ (length_octets k ++ old)) count
    ∙ ap (λ (z : List ℕ). identifier (record { class = tag.class; constructed = true; number = tag.number }) ++ (length_octets (length w) ++ z)) old-is
    ∙ ap (λ (z : List ℕ). identifier (record { class = tag.class; constructed = true; number = tag.number }) ++ z) (sym (append_assoc (length_octets (length w)) w rest))
    ∙ sym (append_assoc (identifier (record { class = tag.class; constructed = true; number = tag.number })) (length_octets (length w) ++ w) rest)

pub closed : {T E : Type 0} (result : Result T E) (tag : Tag) (inner : Elements) (old rest new : List ℕ) (behind : ℕ) → tag.constructed ≡ true → length rest ≡ behind → old ≡ onto inner rest
    → OnOk result (new ≡ identifier tag ++ (length_octets (length old - behind) ++ old)) → OnOk result (new ≡ written (constructed tag.class tag.number inner) ++ rest)
closed (Ok x) tag inner old rest new behind form is all put = around tag inner old rest new behind form is all put
closed (Err e) tag inner old rest new behind form is all put = tt
