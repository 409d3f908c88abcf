-- An element of X.690 without where it lies in memory.
use Rattle.std.specs.Prelude.{ℕ, true, false, List, [], ◌∷◌, Option, Some, None}
use Rattle.ber.specs.declared.tag.Tag.{Tag}
use Rattle.ber.specs.declared.tlv.Tlv.{Tlv}
use Rattle.ber.specs.declared.tlv.Body.{Body, Primitive, Constructed', Row_of-Tlv, end_of-Tlv, more_of-Tlv}

mutual
  -- An element: primitive with its contents octets, or constructed of elements (X.690 8.1.1, 8.1.4).
  pub data Element : Type 0 where
    primitive : (class number : ℕ) → List ℕ → Element
    constructed : (class number : ℕ) → Elements → Element

  -- The elements within another, in order (X.690 8.1.4).
  pub data Elements : Type 0 where
    none : Elements
    more : Element → Elements → Elements

-- What the identifier octets of an element say (X.690 8.1.2).
abbrev pub tag_is : Element → Tag
tag_is (primitive class number contents) = record { class = class; constructed = false; number = number }
tag_is (constructed class number inner) = record { class = class; constructed = true; number = number }

-- The element that a value in memory is, and those of a row of them (this product's own).
abbrev mutual
  pub element_of : ℕ → ℕ → Body → Element
  element_of class number (Primitive contents) = primitive class number contents
  element_of class number (Constructed' shape all) = constructed class number (row_of all)

  -- The elements that a row in memory is (this product's own).
  pub row_of : {m : _} → Row_of-Tlv m → Elements
  row_of end_of-Tlv = none
  row_of (more_of-Tlv class number body rest) = more (element_of class number body) (row_of rest)

-- The element that a `Tlv` is (this product's own).
abbrev pub element : Tlv → Element
element t = element_of t.class t.number t.body

-- The elements of a list of `Tlv` (this product's own).
abbrev pub elements : List Tlv → Elements
elements [] = none
elements (t ∷ ts) = more (element t) (elements ts)

-- The contents octets of a primitive element (X.690 8.1.4).
abbrev pub contents_of : Element → Option (List ℕ)
contents_of (primitive class number contents) = Some contents
contents_of (constructed class number inner) = None

-- The elements within a constructed one (X.690 8.1.4).
abbrev pub inner_of : Element → Option Elements
inner_of (primitive class number contents) = None
inner_of (constructed class number inner) = Some inner

-- The first of some elements, and those behind it (this product's own).
abbrev pub first_of : Elements → Option (Element × Elements)
first_of none = None
first_of (more e es) = Some (e, es)

-- Elements, and others behind them (this product's own).
abbrev pub joined : Elements → Elements → Elements
joined none es = es
joined (more e es) fs = more e (joined es fs)
