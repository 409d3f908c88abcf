-- Which elements a grammar lets stand (this product's own).
use Rattle.std.specs.Prelude.{◌≡◌, ℕ, Bool, true, List}
use Rattle.ber.specs.declared.tag.Tag.{Tag}
use Rattle.ber.specs.declared.grammar.Step.{Step}
use Rattle.ber.specs.declared.grammar.Step.TheVariants as steps
use Rattle.ber.specs.Element.{Element, primitive, constructed, Elements, none, more, tag_is}

-- What a grammar says, by the state of an open element: of an inner element by its tag, of primitive contents, and of the end of an element (this product's own).
pub record Rules (S : Type 0) : Type 0 where
  pub enter : S → Tag → Step S
  pub takes : S → List ℕ → Bool
  pub whole : S → Bool

abbrev mutual
  -- An element that the grammar lets stand, where its own state is s (this product's own).
  pub Conforms : {S : Type 0} → Rules S → S → Element → Type 0
  Conforms r s (primitive class number contents) = r.takes s contents ≡ true
  Conforms r s (constructed class number inner) = AllConform r s inner

  -- The elements within one whose state is s, up to its end (this product's own).
  pub AllConform : {S : Type 0} → Rules S → S → Elements → Type 0
  AllConform r s none = r.whole s ≡ true
  AllConform {S} r s (more e es) = (outer : S) × (inner : S) × (r.enter s (tag_is e) ≡ steps.Into outer inner) × Conforms r inner e × AllConform r outer es

-- The grammar lets this element stand alone, from the state s (this product's own).
abbrev pub Admits : {S : Type 0} → Rules S → S → Element → Type 0
Admits {S} r s e = (outer : S) × (inner : S) × (r.enter s (tag_is e) ≡ steps.Into outer inner) × Conforms r inner e
