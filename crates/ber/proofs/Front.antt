-- The two laws of reading, of the element at the front.
use Rattle.std.proofs.Common.{◌≡◌, ℕ, ◌+◌, ◌-◌, ◌^◌, ◌<◌, ◌≤◌, List, ◌++◌, length, take, drop, Result, Ok, Err, refl, sym, ap, ◌∙◌, subst, append_assoc, arith}
use Rattle.std.specs.Prelude.{IfOk}
use Rattle.std.proofs.lemmas.List.{take_at, take-append-drop, length-append, length-take}
use Rattle.ber.specs.declared.anything.Anything.{Anything}
use Rattle.ber.specs.Element.{Element, primitive, constructed, Elements, none, more}
use Rattle.ber.specs.Reading.{Gives, item_with, inside_at, element_at}
use Rattle.ber.specs.Grammar.{Rules, Conforms, AllConform, Admits}
use Rattle.ber.specs.Spelling.{Spells}
use Rattle.ber.specs.Anything.{anything, one}
use Rattle.ber.specs.declared.refusal.BerRefusal.{BerRefusal}
use Rattle.ber.proofs.Found.{bind_ok, ok_is, item_found, inside_found}
use Rattle.ber.proofs.Spelled.{again_inside, item_again}

abbrev pub IsRead : {S : Type 0} → Rules S → S → List ℕ → Element × ℕ → Type 0
IsRead r s bytes x = (x.1 ≤ length bytes) × Spells 16 (take x.1 bytes) x.0 × Admits r s x.0

front_is : (front rest : List ℕ) (bytes : List ℕ) → bytes ≡ front ++ rest → take (length bytes - length rest) bytes ≡ front
front_is front rest bytes e =
    let n : length bytes - length rest ≡ length front = omega (arith, ap length e, length-append front rest) in
    rw (n, e) (take_at front rest (length front) refl)

pub element_found : {S : Type 0} (r : Rules S) (s : S) (bytes : List ℕ) (x : Element × ℕ) → element_at r s bytes ≡ Ok x → IsRead r s bytes x
unfolding element_at
element_found r s bytes x e =
    let a = bind_ok (item_with r (inside_at r 16) s 0 0 bytes) (λ x. Ok (x.1, length bytes - length x.2)) x e in
    let t = item_found r 16 (inside_at r 16) (inside_found r 16) s 0 0 bytes a.0 a.1 in
    let parts : bytes ≡ (t.tag ++ t.front) ++ a.0.2 = t.parts ∙ sym (append_assoc t.tag t.front a.0.2) in
    let taken = front_is (t.tag ++ t.front) a.0.2 bytes parts in
    subst (λ (z : Element × ℕ). IsRead r s bytes z) (ok_is (a.0.1, length bytes - length a.0.2) x a.2)
    (omega arith, (t.tag, t.front, t.identifier, t.inside, taken), (a.0.0, t.inner, t.enters, t.conforms))

pub element_again : {S : Type 0} (r : Rules S) (s : S) (bytes : List ℕ) (e : Element) (n : ℕ) → length bytes < 2 ^ 63 → n ≤ length bytes → Spells 16 (take n bytes) e → Admits r s e → element_at r s bytes ≡ Ok (e, n)
unfolding element_at
element_again r s bytes e n lt within spells admits =
    let tag = spells.0 in
    let front = spells.1 in
    let len : length (take n bytes) ≡ n = omega (arith, length-take n bytes) in
    let total : length spells.0 + length spells.1 ≡ n = omega (arith, length-append spells.0 spells.1, ap length spells.4) in
    let regrouped : bytes ≡ spells.0 ++ (spells.1 ++ drop n bytes) = sym (take-append-drop n bytes) ∙ ap (λ (z : List ℕ). z ++ drop n bytes) spells.4 ∙ append_assoc spells.0 spells.1 (drop n bytes) in
    let item = item_again r (inside_at r 16) s admits.0 admits.1 0 0 spells.0 spells.1 (drop n bytes) e spells.2 admits.2 (λ place. again_inside e r 16 admits.1 0 place spells.1 (drop n bytes) (omega arith) spells.3 admits.3) in
    let count : length bytes - length (drop n bytes) ≡ n = omega (arith, ap length regrouped, length-append spells.0 (spells.1 ++ drop n bytes), length-append spells.1 (drop n bytes)) in
    let read : item_with r (inside_at r 16) s 0 0 bytes ≡ Ok (admits.0, e, drop n bytes) = ap (λ (z : List ℕ). item_with r (inside_at r 16) s 0 0 z) regrouped ∙ item in
    rw (read, count) refl

mutual
  any_conforms : (e : Element) (s : Anything) → Conforms anything s e
  any_conforms (primitive class number contents) s = refl
  any_conforms (constructed class number inner) s = all_conform inner s

  all_conform : (es : Elements) (s : Anything) → AllConform anything s es
  all_conform none s = refl
  all_conform (more e es) s = (s, s, refl, any_conforms e s, all_conform es s)

pub admitted : (e : Element) (s : Anything) → Admits anything s e
admitted e s = (s, s, refl, any_conforms e s)

pub one_spelling : (a b x y : List ℕ) (d e : Element) → length (a ++ x) < 2 ^ 63 → Spells 16 a d → Spells 16 b e → a ++ x ≡ b ++ y → (a ≡ b) × (d ≡ e)
one_spelling a b x y d e lt first second same =
    let first_all : Spells 16 (take (length a) (a ++ x)) d = rw (take_at a x (length a) refl) first in
    let second_is : take (length b) (a ++ x) ≡ b = rw same (take_at b y (length b) refl) in
    let second_all : Spells 16 (take (length b) (a ++ x)) e = rw second_is second in
    let within : length b ≤ length (a ++ x) = omega (arith, ap length same, length-append b y) in
    let one_read = element_again anything one (a ++ x) d (length a) lt (omega (arith, length-append a x)) first_all (admitted d one) in
    let two_read = element_again anything one (a ++ x) e (length b) lt within second_all (admitted e one) in
    let pair = ok_is (d, length a) (e, length b) (sym one_read ∙ two_read) in
    let len : length a ≡ length b = ap (λ (p : Element × ℕ). p.1) pair in
    (sym (take_at a x (length a) refl) ∙ (rw len second_is), ap (λ (p : Element × ℕ). p.0) pair)

pub is_found : {X S : Type 0} (r : Rules S) (s : S) (bytes : List ℕ) (view : X → Element × ℕ) (result : Result X BerRefusal) → Gives view result (element_at r s bytes) → IfOk result (λ x. IsRead r s bytes (view x))
is_found r s bytes view (Ok x) h = element_found r s bytes (view x) h
is_found r s bytes view (Err e) h = tt

-- the same without the grammar
pub is_spelled : {X S : Type 0} (r : Rules S) (s : S) (bytes : List ℕ) (view : X → Element × ℕ) (result : Result X BerRefusal) → Gives view result (element_at r s bytes) → IfOk result (λ x. ((view x).1 ≤ length bytes) × Spells 16 (take (view x).1 bytes) (view x).0)
is_spelled r s bytes view (Ok x) h = let read = element_found r s bytes (view x) h in (read.0, read.1)
is_spelled r s bytes view (Err e) h = tt

pub is_only : {X S : Type 0} (r : Rules S) (s : S) (bytes : List ℕ) (view : X → Element × ℕ) (result : Result X BerRefusal) → Gives view result (element_at r s bytes) → length bytes < 2 ^ 63
    → (e : Element) (n : ℕ) → n ≤ length bytes → Spells 16 (take n bytes) e → Admits r s e → Gives view result (Ok (e, n))
is_only r s bytes view result h lt e n within spells admits = subst (λ (z : Result (Element × ℕ) ℕ). Gives view result z) (element_again r s bytes e n lt within spells admits) h
