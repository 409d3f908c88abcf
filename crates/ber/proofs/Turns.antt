-- Reading elements one after the other, as a loop does.
use Rattle.std.proofs.Common.{◌≡◌, ℕ, suc, ◌+◌, ◌-◌, ◌<◌, ◌≤◌, Bool, true, false, cond, eqb, List, [], ◌∷◌, ◌++◌, length, Option, Some, None, Result, Ok, Err, refl, sym, ap, ◌∙◌, arith}
use Rattle.std.specs.Prelude.{take, drop, nat_lt}
use Rattle.std.proofs.lemmas.Bool.{le-ltb}
use Rattle.ber.specs.declared.tag.Tag.{Tag}
use Rattle.ber.specs.Octets.{tag_at, length_at}
use Rattle.ber.specs.declared.grammar.Step.TheVariants as steps
use Rattle.ber.specs.Element.{Element, Elements, none, more, joined, element, elements, element_of, row_of, primitive, constructed}
use Rattle.ber.specs.Grammar.{Rules}
use Rattle.ber.specs.Reading.{Inside, ◌>>=◌, after, end_at, closing, item_with, items_with, inside_at, contents_with, Fails}
use Rattle.ber.specs.declared.tlv.Tlv.{Tlv}
use Rattle.ber.specs.declared.tlv.Body.TheBlock.{hidden-the_row-Tlv-0}
use Rattle.std.specs.Option.{option_map}
use Rattle.ber.specs.declared.refusal.BerRefusal.{BerRefusal}
use Rattle.ber.specs.declared.refusal.BerRefusal.TheVariants as refusal
use Rattle.ber.specs.declared.tlv.Body.{Constructed, Row_of-Tlv, end_of-Tlv, more_of-Tlv, items-the_row-Tlv, items_hidden-the_row-Tlv-0}

-- what was read before, and what is still read
abbrev pub with_front : Elements → Result (Elements × List ℕ) ℕ → Result (Elements × List ℕ) ℕ
with_front front read = read >>= λ x. Ok (joined front x.0, x.1)

pub joined-none : (es : Elements) → joined es none ≡ es
joined-none none = refl
joined-none (more e es) = ap (λ (x : Elements). more e x) (joined-none es)

pub joined-assoc : (a b c : Elements) → joined (joined a b) c ≡ joined a (joined b c)
joined-assoc none b c = refl
joined-assoc (more e es) b c = ap (λ (x : Elements). more e x) (joined-assoc es b c)

pub elements-push : (ts : List Tlv) (t : Tlv) → elements (ts ++ t ∷ []) ≡ joined (elements ts) (more (element t) none)
elements-push [] t = refl
elements-push (x ∷ xs) t = ap (λ (y : Elements). more (element x) y) (elements-push xs t)

pub with_none : (read : Result (Elements × List ℕ) ℕ) → with_front none read ≡ read
with_none (Ok x) = refl
with_none (Err f) = refl

regroup : (front : Elements) (e : Element) (read : Result (Elements × List ℕ) ℕ) → with_front front (read >>= λ y. Ok (more e y.0, y.1)) ≡ with_front (joined front (more e none)) read
regroup front e (Ok x) = ap (λ (es : Elements). Ok (es, x.1)) (sym (joined-assoc front (more e none) x.0))
regroup front e (Err f) = refl

abbrev pub turn : {S : Type 0} → Rules S → Inside S → ℕ → Bool → S → ℕ → ℕ → List ℕ → Option (List ℕ) → Result (Elements × List ℕ) ℕ
turn r inside turns definite s around at bytes o =
    elim o [
      | Some rest ↦ closing (r.whole s) around rest
      | None ↦ cond (eqb (length bytes) 0) (Err around) (item_with r inside s around at bytes >>= λ x.
          items_with r inside turns definite x.0 around (after at bytes x.2) x.2 >>= λ y. Ok (more x.1 y.0, y.1))
    ]

pub one_turn : {S : Type 0} (r : Rules S) (inside : Inside S) (count i : ℕ) (definite : Bool) (s : S) (around at : ℕ) (bytes : List ℕ) → i < count
    → items_with r inside (count - i) definite s around at bytes ≡ turn r inside (count - (i + 1)) definite s around at bytes (end_at definite bytes)
unfolding items_with
one_turn r inside count i definite s around at bytes lt =
    let k : count - i ≡ suc (count - (i + 1)) = omega arith in
    rw k refl

-- the end stands here
pub ended : {S : Type 0} (r : Rules S) (inside : Inside S) (count i : ℕ) (definite : Bool) (s : S) (around at : ℕ) (bytes rest : List ℕ) (front : Elements) (total : Result (Elements × List ℕ) ℕ)
    → i < count → end_at definite bytes ≡ Some rest → with_front front (items_with r inside (count - i) definite s around at bytes) ≡ total → with_front front (closing (r.whole s) around rest) ≡ total
ended r inside count i definite s around at bytes rest front total lt e so_far =
    let one = one_turn r inside count i definite s around at bytes lt in
    rw (one, e) at so_far

pub closed : (whole : Bool) (around : ℕ) (rest : List ℕ) (front : Elements) (total : Result (Elements × List ℕ) ℕ) → whole ≡ true → with_front front (closing whole around rest) ≡ total → total ≡ Ok (front, rest)
closed true around rest front total e so_far = sym so_far ∙ ap (λ (es : Elements). Ok (es, rest)) (joined-none front)
closed false around rest front total e so_far = absurd cc

pub not_closed : (whole : Bool) (around : ℕ) (rest : List ℕ) (front : Elements) (total : Result (Elements × List ℕ) ℕ) → whole ≡ false → with_front front (closing whole around rest) ≡ total → total ≡ Err around
not_closed true around rest front total e so_far = absurd cc
not_closed false around rest front total e so_far = sym so_far

pub cut_off : {S : Type 0} (r : Rules S) (inside : Inside S) (count i : ℕ) (definite : Bool) (s : S) (around at : ℕ) (bytes : List ℕ) (front : Elements) (total : Result (Elements × List ℕ) ℕ)
    → i < count → end_at definite bytes ≡ None → eqb (length bytes) 0 ≡ true → with_front front (items_with r inside (count - i) definite s around at bytes) ≡ total → total ≡ Err around
cut_off r inside count i definite s around at bytes front total lt e empty so_far =
    let one = one_turn r inside count i definite s around at bytes lt in
    sym (rw (one, e, empty) at so_far)

pub at_item : {S : Type 0} (r : Rules S) (inside : Inside S) (count i : ℕ) (definite : Bool) (s : S) (around at : ℕ) (bytes : List ℕ) (front : Elements) (total : Result (Elements × List ℕ) ℕ)
    → i < count → end_at definite bytes ≡ None → eqb (length bytes) 0 ≡ false → with_front front (items_with r inside (count - i) definite s around at bytes) ≡ total
    → with_front front (item_with r inside s around at bytes >>= λ x. items_with r inside (count - (i + 1)) definite x.0 around (after at bytes x.2) x.2 >>= λ y. Ok (more x.1 y.0, y.1)) ≡ total
at_item r inside count i definite s around at bytes front total lt e some so_far =
    let one = one_turn r inside count i definite s around at bytes lt in
    rw (one, e, some) at so_far

pub goes_on : {S : Type 0} (r : Rules S) (inside : Inside S) (turns : ℕ) (definite : Bool) (s next : S) (around at : ℕ) (bytes rest : List ℕ) (x : Element) (front : Elements) (total : Result (Elements × List ℕ) ℕ)
    → item_with r inside s around at bytes ≡ Ok (next, x, rest)
    → with_front front (item_with r inside s around at bytes >>= λ x. items_with r inside turns definite x.0 around (after at bytes x.2) x.2 >>= λ y. Ok (more x.1 y.0, y.1)) ≡ total
    → with_front (joined front (more x none)) (items_with r inside turns definite next around (after at bytes rest) rest) ≡ total
goes_on r inside turns definite s next around at bytes rest x front total e so_far =
    let now = rw e at so_far in
    sym (regroup front x (items_with r inside turns definite next around (after at bytes rest) rest)) ∙ now

pub fails : {S : Type 0} (r : Rules S) (inside : Inside S) (turns : ℕ) (definite : Bool) (s : S) (around at : ℕ) (bytes : List ℕ) (front : Elements) (total : Result (Elements × List ℕ) ℕ) (e : BerRefusal)
    → Fails e (item_with r inside s around at bytes)
    → with_front front (item_with r inside s around at bytes >>= λ x. items_with r inside turns definite x.0 around (after at bytes x.2) x.2 >>= λ y. Ok (more x.1 y.0, y.1)) ≡ total
    → Fails e total
fails r inside turns definite s around at bytes front total refusal.OutOfMemory h so_far = tt
fails r inside turns definite s around at bytes front total (refusal.BadRecord f) h so_far = sym (rw h at so_far)

pub out_of_turns : {S : Type 0} (r : Rules S) (inside : Inside S) (count i : ℕ) (definite : Bool) (s : S) (around at : ℕ) (bytes : List ℕ) (front : Elements) (total : Result (Elements × List ℕ) ℕ)
    → count ≤ i → with_front front (items_with r inside (count - i) definite s around at bytes) ≡ total → total ≡ Err around
unfolding items_with
out_of_turns r inside count i definite s around at bytes front total le so_far =
    let k : count - i ≡ 0 = omega arith in
    sym (rw k at so_far)

rows-are : (n : _) (k : Row_of-Tlv n) → row_of k ≡ elements (items-the_row-Tlv n k)
rows-are _ end_of-Tlv = refl
rows-are _ (more_of-Tlv class number body rest) = ap (λ (es : Elements). more (element_of class number body) es) (rows-are _ rest)

pub element-constructed : (class number : ℕ) (ts : List Tlv) → element_of class number (Constructed ts) ≡ constructed class number (elements ts)
element-constructed class number ts = ap (λ (es : Elements). constructed class number es) (rows-are _ (hidden-the_row-Tlv-0 ts) ∙ ap elements (items_hidden-the_row-Tlv-0 ts))

pub fails_bind : {A B : Type 0} (e : BerRefusal) (x : Result A ℕ) (f : A → Result B ℕ) → Fails e x → Fails e (x >>= f)
fails_bind refusal.OutOfMemory x f h = tt
fails_bind (refusal.BadRecord at) x f h = rw h refl

pub inside_is : {S : Type 0} (r : Rules S) (levels : ℕ) (s : S) (tag : Tag) (at place : ℕ) (bytes : List ℕ) (len : Option ℕ) (body : List ℕ) → 1 ≤ levels → length_at bytes ≡ Some (len, body)
    → inside_at r levels s tag at place bytes ≡ contents_with r (inside_at r (levels - 1)) s tag at (after place bytes body) len body
unfolding inside_at
inside_is r levels s tag at place bytes len body some e =
    let k : levels ≡ suc (levels - 1) = omega arith in
    let start : inside_at r (suc (levels - 1)) s tag at place bytes ≡ contents_with r (inside_at r (levels - 1)) s tag at (after place bytes body) len body = rw e refl in
    ap (λ (n : ℕ). inside_at r n s tag at place bytes) k ∙ start

pub definite_fails : {S : Type 0} (r : Rules S) (levels : ℕ) (s : S) (tag : Tag) (at place n : ℕ) (bytes body : List ℕ) (e : BerRefusal) → 1 ≤ levels → length_at bytes ≡ Some (Some n, body) → n ≤ length body → tag.constructed ≡ true
    → Fails e (items_with r (inside_at r (levels - 1)) (length (take n body) + 1) true s at (after place bytes body) (take n body)) → Fails e (inside_at r levels s tag at place bytes)
definite_fails r levels s tag at place n bytes body e some is within shape h =
    let long : nat_lt (length body) n ≡ false = le-ltb _ _ within in
    rw (inside_is r levels s tag at place bytes (Some n) body some is, long, shape) (fails_bind e (items_with r (inside_at r (levels - 1)) (length (take n body) + 1) true s at (after place bytes body) (take n body)) _ h)

pub no_some : {A B : Type 0} (f : A → B) (o : Option A) → ((x : A) → o ≡ Some x → ⊥) → option_map f o ≡ None
no_some f None h = refl
no_some f (Some x) h = absurd (h x refl)

pub definite_is : {S : Type 0} (r : Rules S) (levels : ℕ) (s : S) (tag : Tag) (at place n : ℕ) (bytes body : List ℕ) (x : Elements × List ℕ) → 1 ≤ levels → length_at bytes ≡ Some (Some n, body) → n ≤ length body → tag.constructed ≡ true
    → items_with r (inside_at r (levels - 1)) (length (take n body) + 1) true s at (after place bytes body) (take n body) ≡ Ok x
    → inside_at r levels s tag at place bytes ≡ Ok (constructed tag.class tag.number x.0, drop n body)
definite_is r levels s tag at place n bytes body x some is within shape h =
    let long : nat_lt (length body) n ≡ false = le-ltb _ _ within in
    rw (inside_is r levels s tag at place bytes (Some n) body some is, long, shape, h) refl

pub item_is : {S : Type 0} (r : Rules S) (inside : Inside S) (s outer inner : S) (around at : ℕ) (bytes behind rest : List ℕ) (tag : Tag) (e : Element) → tag_at bytes ≡ Some (tag, behind) → r.enter s tag ≡ steps.Into outer inner
    → inside inner tag at (after at bytes behind) behind ≡ Ok (e, rest) → item_with r inside s around at bytes ≡ Ok (outer, e, rest)
unfolding item_with
item_is r inside s outer inner around at bytes behind rest tag e a b c = rw (a, b, c) refl

pub indefinite_is : {S : Type 0} (r : Rules S) (levels : ℕ) (s : S) (tag : Tag) (at place : ℕ) (bytes body : List ℕ) (x : Elements × List ℕ) → 1 ≤ levels → length_at bytes ≡ Some (None, body) → tag.constructed ≡ true
    → items_with r (inside_at r (levels - 1)) (length body + 1) false s at (after place bytes body) body ≡ Ok x
    → inside_at r levels s tag at place bytes ≡ Ok (constructed tag.class tag.number x.0, x.1)
indefinite_is r levels s tag at place bytes body x some is shape h = rw (inside_is r levels s tag at place bytes None body some is, shape, h) refl

pub contents_is : {S : Type 0} (r : Rules S) (levels : ℕ) (s : S) (tag : Tag) (at place n : ℕ) (bytes body : List ℕ) → 1 ≤ levels → length_at bytes ≡ Some (Some n, body) → n ≤ length body → tag.constructed ≡ false
    → r.takes s (take n body) ≡ true → inside_at r levels s tag at place bytes ≡ Ok (primitive tag.class tag.number (take n body), drop n body)
contents_is r levels s tag at place n bytes body some is within shape taken =
    let long : nat_lt (length body) n ≡ false = le-ltb _ _ within in
    rw (inside_is r levels s tag at place bytes (Some n) body some is, long, shape, taken) refl
