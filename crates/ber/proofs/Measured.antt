-- Lengths that are known before anything is written.
use Rattle.std.proofs.Common.{◌≡◌, ℕ, ◌+◌, ◌≤◌, List, [], ◌∷◌, ◌++◌, length, drop, Result, Ok, Err, sym, ap, ◌∙◌, subst, append_assoc, arith}
use Rattle.std.specs.Prelude.{IfOk, OnOk}
use Rattle.std.proofs.lemmas.List.{append-nil, at_drop_all, length-append}
use Rattle.std.proofs.Math.ListN.{set}
use Rattle.std.proofs.Math.Seq.{set-append_seam}
use Rattle.ber.specs.declared.tag.Tag.{Tag}
use Rattle.ber.specs.declared.tlv.Tlv.{Tlv}
use Rattle.ber.specs.Element.{Element, constructed, elements, tag_is}
use Rattle.ber.specs.Written.{length_octets, identifier, inside_written, written_all, written, lengths_in, lengths_all}

pub on_ok : {T E : Type 0} (result : Result T E) (P : Type 0) → P → OnOk result P
on_ok (Ok x) P p = p
on_ok (Err e) P p = tt

parts_written : (tag : Tag) (e : Element) (ts : List Tlv) → e ≡ constructed tag.class tag.number (elements ts) → tag ≡ tag_is e
    → identifier tag ++ (length_octets (length (written_all (elements ts))) ++ written_all (elements ts)) ≡ written e
parts_written tag e ts e-is tag-is =
    let w : List ℕ = written_all (elements ts) in
    ap (λ (t : Tag). identifier t ++ (length_octets (length w) ++ w)) tag-is ∙ ap (λ (z : List ℕ). identifier (tag_is e) ++ z) (ap inside_written (sym e-is))

counted : (ts : List Tlv) (i n : ℕ) → length ts ≤ i → n + length (written_all (elements (drop i ts))) ≡ length (written_all (elements ts)) → n ≡ length (written_all (elements ts))
counted ts i n past so_far = omega (arith, so_far, at_drop_all (λ (xs : List Tlv). length (written_all (elements xs))) ts i past)

-- how many octets a constructed element takes, by those of the elements within it
pub measured : {E : Type 0} (tag : Tag) (e : Element) (ts : List Tlv) (i n : ℕ) (result : Result ℕ E) → e ≡ constructed tag.class tag.number (elements ts) → tag ≡ tag_is e → length ts ≤ i
    → n + length (written_all (elements (drop i ts))) ≡ length (written_all (elements ts)) → IfOk result (λ m. m ≡ length (identifier tag) + (length (length_octets n) + n)) → IfOk result (λ m. m ≡ length (written e))
measured tag e ts i n result e-is tag-is past so_far h =
    let w : List ℕ = written_all (elements ts) in
    let n-is = counted ts i n past so_far in
    let whole : length (identifier tag) + (length (length_octets (length w)) + length w) ≡ length (written e) = omega (
      arith,
      ap length (parts_written tag e ts e-is tag-is),
      length-append (identifier tag) (length_octets (length w) ++ w),
      length-append (length_octets (length w)) w,
    ) in
    let total : length (identifier tag) + (length (length_octets n) + n) ≡ length (written e) = ap (λ (k : ℕ). length (identifier tag) + (length (length_octets k) + k)) n-is ∙ whole in
    subst (λ (k : ℕ). IfOk result (λ m. m ≡ k)) total h

-- and the lengths of it and of those within it
pub lengths_measured : (old done : List ℕ) (e : Element) (class number : ℕ) (ts : List Tlv) (i n place : ℕ) → e ≡ constructed class number (elements ts) → length ts ≤ i → place ≡ length old
    → n + length (written_all (elements (drop i ts))) ≡ length (written_all (elements ts)) → done ++ lengths_all (elements (drop i ts)) ≡ (old ++ 0 ∷ []) ++ lengths_all (elements ts) → set done place n ≡ old ++ lengths_in e
lengths_measured old done e class number ts i n place e-is past at so_far lengths =
    let inner : List ℕ = lengths_all (elements ts) in
    let none : lengths_all (elements (drop i ts)) ≡ [] = at_drop_all (λ (xs : List Tlv). lengths_all (elements xs)) ts i past in
    let done-is : done ≡ old ++ 0 ∷ inner = sym (append-nil done) ∙ ap (λ (z : List ℕ). done ++ z) (sym none) ∙ lengths ∙ append_assoc old (0 ∷ []) inner in
    ap (λ (z : List ℕ). set z place n) done-is ∙ ap (λ (k : ℕ). set (old ++ 0 ∷ inner) k n) at ∙ set-append_seam old 0 inner n
    ∙ ap (λ (k : ℕ). old ++ k ∷ inner) (counted ts i n past so_far) ∙ ap (λ (z : List ℕ). old ++ z) (ap lengths_in (sym e-is))

-- the first length is that of the element, and the others are of those within it
abbrev pub AreLengths : ℕ → List ℕ → List Tlv → List ℕ → Type 0
AreLengths n behind ts rest = (n ≡ length (written_all (elements ts))) × (behind ≡ lengths_all (elements ts) ++ rest)

pub split_lengths : (lengths : List ℕ) (n : ℕ) (behind : List ℕ) (e : Element) (class number : ℕ) (ts : List Tlv) (rest : List ℕ) → lengths ≡ n ∷ behind → e ≡ constructed class number (elements ts)
    → lengths ≡ lengths_in e ++ rest → AreLengths n behind ts rest
split_lengths lengths n behind e class number ts rest is e-is all =
    let both : n ∷ behind ≡ length (written_all (elements ts)) ∷ (lengths_all (elements ts) ++ rest) = sym is ∙ all ∙ ap (λ (x : Element). lengths_in x ++ rest) e-is in
    (cc, cc)

pub put_is : (tag : Tag) (e : Element) (ts : List Tlv) (i n : ℕ) (old mid start out : List ℕ) → e ≡ constructed tag.class tag.number (elements ts) → tag ≡ tag_is e → length ts ≤ i → mid ≡ old ++ identifier tag
    → start ≡ mid ++ length_octets n → n ≡ length (written_all (elements ts)) → out ++ written_all (elements (drop i ts)) ≡ start ++ written_all (elements ts) → out ≡ old ++ written e
put_is tag e ts i n old mid start out e-is tag-is past mid-is start-is n-is so_far =
    let w : List ℕ = written_all (elements ts) in
    let none : written_all (elements (drop i ts)) ≡ [] = at_drop_all (λ (xs : List Tlv). written_all (elements xs)) ts i past in
    let out-is : out ≡ start ++ w = sym (append-nil out) ∙ ap (λ (z : List ℕ). out ++ z) (sym none) ∙ so_far in
    let start-all : start ≡ (old ++ identifier tag) ++ length_octets (length w) = start-is ∙ ap (λ (z : List ℕ). z ++ length_octets n) mid-is ∙ ap (λ (k : ℕ). (old ++ identifier tag) ++ length_octets k) n-is in
    out-is ∙ ap (λ (z : List ℕ). z ++ w) start-all ∙ append_assoc (old ++ identifier tag) (length_octets (length w)) w ∙ append_assoc old (identifier tag) (length_octets (length w) ++ w)
    ∙ ap (λ (z : List ℕ). old ++ z) (parts_written tag e ts e-is tag-is)

-- how many octets an element takes, by its parts
parts_counted : (tag : Tag) (e : Element) (ts : List Tlv) (n : ℕ) → e ≡ constructed tag.class tag.number (elements ts) → tag ≡ tag_is e → n ≡ length (written_all (elements ts))
    → length (identifier tag) + (length (length_octets n) + length (written_all (elements ts))) ≡ length (written e)
parts_counted tag e ts n e-is tag-is n-is =
    let w : List ℕ = written_all (elements ts) in
    let long : length (length_octets n) ≡ length (length_octets (length w)) = ap (λ (k : ℕ). length (length_octets k)) n-is in
    omega (arith, long, ap length (parts_written tag e ts e-is tag-is), length-append (identifier tag) (length_octets (length w) ++ w), length-append (length_octets (length w)) w)

-- where an element fits, the elements within it do behind its identifier and its length
pub put_fits : (tag : Tag) (e : Element) (ts : List Tlv) (n at place start size : ℕ) → e ≡ constructed tag.class tag.number (elements ts) → tag ≡ tag_is e → place ≡ at + length (identifier tag)
    → start ≡ place + length (length_octets n) → n ≡ length (written_all (elements ts)) → at + length (written e) ≤ size → start + length (written_all (elements ts)) ≤ size
put_fits tag e ts n at place start size e-is tag-is place-is start-is n-is fits = omega (arith, place-is, start-is, fits, parts_counted tag e ts n e-is tag-is n-is)

-- and it ends where the last of them does
pub put_end : (tag : Tag) (e : Element) (ts : List Tlv) (i n at place start end : ℕ) → e ≡ constructed tag.class tag.number (elements ts) → tag ≡ tag_is e → length ts ≤ i → place ≡ at + length (identifier tag)
    → start ≡ place + length (length_octets n) → n ≡ length (written_all (elements ts)) → end + length (written_all (elements (drop i ts))) ≡ start + length (written_all (elements ts)) → end ≡ at + length (written e)
put_end tag e ts i n at place start end e-is tag-is past place-is start-is n-is so_far =
    let none : length (written_all (elements (drop i ts))) ≡ 0 = at_drop_all (λ (xs : List Tlv). length (written_all (elements xs))) ts i past in
    omega (arith, place-is, start-is, so_far, none, parts_counted tag e ts n e-is tag-is n-is)
