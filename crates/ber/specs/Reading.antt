-- Reading an element from left to right under a grammar: the element, or the octet of the fault that is met first.
use Rattle.std.specs.Prelude.{◌≡◌, ℕ, zero, suc, ◌+◌, ◌-◌, Bool, true, false, ◌==◌, nat_lt, List, [], ◌∷◌, length, take, drop, Option, Some, None, Result, Ok, Err, if◌then◌else◌}
use Rattle.ber.specs.declared.tag.Tag.{Tag}
use Rattle.ber.specs.declared.grammar.Step.{Step}
use Rattle.ber.specs.declared.grammar.Step.TheVariants as steps
use Rattle.ber.specs.declared.refusal.BerRefusal.{BerRefusal}
use Rattle.ber.specs.declared.refusal.BerRefusal.TheVariants as refusal
use Rattle.ber.specs.Octets.{tag_at, length_at}
use Rattle.ber.specs.Grammar.{Rules}
use Rattle.ber.specs.Element.{Element, primitive, constructed, Elements, none, more}

infixl 10 ◌>>=◌
-- What is read next, where there was no fault before it (this product's own).
abbrev pub ◌>>=◌ : {A B : Type 0} → Result A ℕ → (A → Result B ℕ) → Result B ℕ
(Ok x) >>= f = f x
(Err e) >>= f = Err e

-- A fault at this octet where there is nothing (this product's own).
abbrev pub or_fault : {A : Type 0} → ℕ → Option A → Result A ℕ
or_fault at None = Err at
or_fault at (Some x) = Ok x

-- Where `rest` stands, which is the end of `bytes`, which stand at `place` (this product's own).
abbrev pub after : ℕ → List ℕ → List ℕ → ℕ
after place bytes rest = place + (length bytes - length rest)

-- The states of the element around, which begins at `around`, and of the inner one, which begins at `at` (this product's own).
abbrev pub entering : {S : Type 0} → ℕ → ℕ → Step S → Result (S × S) ℕ
entering around at (steps.Into outer inner) = Ok (outer, inner)
entering around at steps.Here = Err at
entering around at steps.Around = Err around

-- Reads length and contents of the element that begins at `at`, from `place` on, and gives what follows it (this product's own).
abbrev pub Inside : Type 0 → Type 0
Inside S = S → Tag → ℕ → ℕ → List ℕ → Result (Element × List ℕ) ℕ

-- The element at `at` within the one at `around`: its tag, the grammar's word, then length and contents (X.690 8.1.1).
unfoldable pub item_with : {S : Type 0} → Rules S → Inside S → S → ℕ → ℕ → List ℕ → Result (S × Element × List ℕ) ℕ
item_with r inside s around at bytes = do
  t ← or_fault at (tag_at bytes)
  states ← entering around at (r.enter s t.0)
  x ← inside states.1 t.0 at (after at bytes t.1) t.1
  Ok (states.0, x.0, x.1)

-- What follows the end of contents, where it stands here: no octet is left of a definite length, 00 00 of an indefinite one (X.690 8.1.5).
abbrev pub end_at : Bool → List ℕ → Option (List ℕ)
end_at definite [] = if definite then Some [] else None
end_at definite (b ∷ []) = None
end_at definite (b ∷ c ∷ rest) = if definite then None else (if b == 0 then (if c == 0 then Some rest else None) else None)

-- At the end of an element the grammar says whether it is whole; else the fault is that of the element (this product's own).
abbrev pub closing : Bool → ℕ → List ℕ → Result (Elements × List ℕ) ℕ
closing whole around rest = if whole then Ok (none, rest) else Err around

-- The elements within the one at `around` up to its end, in at most `turns` turns; a missing end is its fault (X.690 8.1.4, 8.1.5).
unfoldable pub items_with : {S : Type 0} → Rules S → Inside S → ℕ → Bool → S → ℕ → ℕ → List ℕ → Result (Elements × List ℕ) ℕ
items_with r inside zero definite s around at bytes = Err around
items_with r inside (suc turns) definite s around at bytes =
    elim (end_at definite bytes) [
      | Some rest ↦ closing (r.whole s) around rest
      | None ↦ if length bytes == 0 then Err around else (item_with r inside s around at bytes >>= λ x.
          items_with r inside turns definite x.0 around (after at bytes x.2) x.2 >>= λ y. Ok (more x.1 y.0, y.1))
    ]

-- Contents of a definite length, all of them: elements, or octets that the grammar takes (X.690 8.1.4).
abbrev pub definite_with : {S : Type 0} → Rules S → Inside S → S → Tag → ℕ → ℕ → List ℕ → List ℕ → Result (Element × List ℕ) ℕ
definite_with r inside s tag at place contents rest =
    if tag.constructed then (items_with r inside (length contents + 1) true s at place contents >>= λ x. Ok (constructed tag.class tag.number x.0, rest))
    else (if r.takes s contents then Ok (primitive tag.class tag.number contents, rest) else Err at)

-- Contents of any length; an indefinite length is for constructed elements, and no definite one goes past the octets that are there (X.690 8.1.3.2).
abbrev pub contents_with : {S : Type 0} → Rules S → Inside S → S → Tag → ℕ → ℕ → Option ℕ → List ℕ → Result (Element × List ℕ) ℕ
contents_with r inside s tag at place None bytes =
    if tag.constructed then (items_with r inside (length bytes + 1) false s at place bytes >>= λ x. Ok (constructed tag.class tag.number x.0, x.1))
    else Err at
contents_with r inside s tag at place (Some n) bytes =
    if nat_lt (length bytes) n then Err at else definite_with r inside s tag at place (take n bytes) (drop n bytes)

-- Length and contents, with at most so many elements within each other, this one counted (X.690 8.1.3; the bound is this product's own).
unfoldable pub inside_at : {S : Type 0} → Rules S → ℕ → Inside S
inside_at r zero s tag at place bytes = Err at
inside_at r (suc levels) s tag at place bytes = do
  len ← or_fault at (length_at bytes)
  contents_with r (inside_at r levels) s tag at (after place bytes len.1) len.0 len.1

-- The element at the front, with at most 16 within each other, and how many octets it takes (this product's own).
unfoldable pub element_at : {S : Type 0} → Rules S → S → List ℕ → Result (Element × ℕ) ℕ
element_at r s bytes = item_with r (inside_at r 16) s 0 0 bytes >>= λ x. Ok (x.1, length bytes - length x.2)

-- A refusal is want of memory, or has the octet of what is read (this product's own).
abbrev pub Fails : {Y : Type 0} → BerRefusal → Result Y ℕ → Type 0
Fails refusal.OutOfMemory read = Unit {0}
Fails (refusal.BadRecord at) read = read ≡ Err at

-- What a function returned, seen by `view`, is what is read, unless memory was wanting (this product's own).
abbrev pub Gives : {X Y : Type 0} → (X → Y) → Result X BerRefusal → Result Y ℕ → Type 0
Gives view (Ok x) read = read ≡ Ok (view x)
Gives view (Err e) read = Fails e read
