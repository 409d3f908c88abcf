-- Elements on a tape: nodes in order of their first octets, each followed by those within it (this product's own).
use Rattle.std.specs.Prelude.{◌≡◌, ℕ, zero, suc, List, [], ◌∷◌, ◌++◌, length, take, drop, Result, Ok, Err}
use Rattle.ber.specs.declared.node.Node.{Node}
use Rattle.ber.specs.declared.node.Content.{Content}
use Rattle.ber.specs.declared.node.Content.TheVariants.{Octets, Nodes}
use Rattle.ber.specs.declared.refusal.BerRefusal.{BerRefusal}
use Rattle.ber.specs.declared.tlv_ref.TlvRef.{TlvRef}
use Rattle.ber.specs.declared.tlv_ref.BodyRef.{BodyRef}
use Rattle.ber.specs.declared.tlv_ref.BodyRef.TheVariants.{Primitive, Constructed}
use Rattle.ber.specs.declared.tlv_ref.Row.{Row}
use Rattle.ber.specs.Element.{Element, primitive, constructed, Elements, none, more, joined}
use Rattle.ber.specs.Reading.{Fails}

-- A node of these parts (this product's own).
abbrev pub node_with : ℕ → ℕ → Content → Node
node_with class number content = record { class = class; number = number; content = content }

-- The elements that nodes are, where at most so many are looked at (this product's own).
unfoldable pub elements_in : ℕ → List Node → Elements
elements_in zero nodes = none
elements_in (suc turns) [] = none
elements_in (suc turns) (node ∷ behind) =
    elim node.content [
      | Octets contents ↦ more (primitive node.class node.number contents.now) (elements_in turns behind)
      | Nodes size ↦ more (constructed node.class node.number (elements_in turns (take size behind))) (elements_in turns (drop size behind))
    ]

-- The elements that nodes are (this product's own).
abbrev pub nodes_seen : List Node → Elements
nodes_seen nodes = elements_in (length nodes) nodes

-- The elements of a row (this product's own).
abbrev pub row_seen : Row → Elements
row_seen row = nodes_seen row.nodes.now

-- The element of these parts (this product's own).
abbrev pub seen_of : ℕ → ℕ → BodyRef → Element
seen_of class number (Primitive contents) = primitive class number contents.now
seen_of class number (Constructed inner) = constructed class number (row_seen inner)

-- The element that a `TlvRef` is (this product's own).
abbrev pub seen : TlvRef → Element
seen t = seen_of t.class t.number t.body

-- Nodes that are whole elements: what follows them is no part of these (this product's own).
pub record AreWhole (nodes : List Node) : Type 0 where
  pub apart : (rest : List Node) → nodes_seen (nodes ++ rest) ≡ joined (nodes_seen nodes) (nodes_seen rest)

-- The nodes of these elements were added (this product's own).
pub record Adds (old new : List Node) (es : Elements) : Type 0 where
  pub nodes : List Node
  pub is : new ≡ old ++ nodes
  pub whole : AreWhole nodes
  pub seen : nodes_seen nodes ≡ es

-- What a function returned, with what it added, is what is read, unless memory was wanting (this product's own).
abbrev pub Lays : {X E Y : Type 0} → (X → E → Y) → (E → Type 0) → Result X BerRefusal → Result Y ℕ → Type 0
Lays {E = E} view adds (Ok x) read = (e : E) × (read ≡ Ok (view x e)) × adds e
Lays view adds (Err why) read = Fails why read
