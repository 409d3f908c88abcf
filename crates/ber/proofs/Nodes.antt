-- Nodes on a tape, and the elements that they are.
use Rattle.std.proofs.Common.{◌≡◌, ℕ, zero, suc, ◌+◌, ◌-◌, ◌<◌, ◌≤◌, Some, None, List, [], ◌∷◌, ◌++◌, length, take, drop, refl, sym, ap, ◌∙◌, append_assoc, arith}
use Rattle.std.proofs.lemmas.List.{append-nil, length-append, length-take, length-drop, take_at, drop_at}
use Rattle.std.proofs.Math.Seq.{set-append_seam}
use Rattle.std.proofs.Math.ListN.{set}
use Rattle.ber.specs.declared.tlv.Tlv.{Tlv}
use Rattle.ber.specs.declared.node.Node.{Node}
use Rattle.ber.specs.declared.node.Content.{Content}
use Rattle.ber.specs.declared.node.Content.TheVariants.{Octets, Nodes}
use Rattle.ber.specs.Element.{Element, primitive, constructed, Elements, none, more, joined, first_of, element, elements}
use Rattle.ber.specs.Tape.{node_with, elements_in, nodes_seen, AreWhole, Adds}
use Rattle.ber.proofs.Turns.{joined-none, joined-assoc, elements-push}

-- the first node and those behind it, where at most so many of these are looked at
abbrev one_node : ℕ → ℕ → ℕ → Content → List Node → Elements
one_node turns class number content behind =
    elim content [
      | Octets contents ↦ more (primitive class number contents.now) (elements_in turns behind)
      | Nodes size ↦ more (constructed class number (elements_in turns (take size behind))) (elements_in turns (drop size behind))
    ]

no_nodes : (turns : ℕ) → elements_in turns [] ≡ none
unfolding elements_in
no_nodes zero = refl
no_nodes (suc turns) = refl

same_node : (content : Content) (j k class number : ℕ) (behind : List Node) → ((ms : List Node) → length ms ≤ length behind → elements_in j ms ≡ elements_in k ms) → one_node j class number content behind ≡ one_node k class number content behind
same_node (Octets contents) j k class number behind same = ap (λ (es : Elements). more (primitive class number contents.now) es) (same behind (omega arith))
same_node (Nodes size) j k class number behind same =
    let a = same (take size behind) (omega (arith, length-take size behind)) in
    let b = same (drop size behind) (omega (arith, length-drop size behind)) in
    λ i. more (constructed class number (a i)) (b i)

-- more turns than there are nodes change nothing
enough : (j k : ℕ) (ns : List Node) → length ns ≤ j → length ns ≤ k → elements_in j ns ≡ elements_in k ns
unfolding elements_in
enough j k [] a b = no_nodes j ∙ sym (no_nodes k)
enough zero k (n ∷ ns) a b = absurd (omega arith)
enough (suc j) zero (n ∷ ns) a b = absurd (omega arith)
enough (suc j) (suc k) (n ∷ ns) a b = same_node n.content j k n.class n.number ns (λ ms le. enough j k ms (omega arith) (omega arith))

-- the first node, and those behind it
abbrev pub front_node : ℕ → ℕ → Content → List Node → Elements
front_node class number (Octets contents) behind = more (primitive class number contents.now) (nodes_seen behind)
front_node class number (Nodes size) behind = more (constructed class number (nodes_seen (take size behind))) (nodes_seen (drop size behind))

front_is : (content : Content) (class number : ℕ) (behind : List Node) → one_node (length behind) class number content behind ≡ front_node class number content behind
front_is (Octets contents) class number behind = refl
front_is (Nodes size) class number behind =
    let a = enough (length behind) (length (take size behind)) (take size behind) (omega (arith, length-take size behind)) (omega arith) in
    let b = enough (length behind) (length (drop size behind)) (drop size behind) (omega (arith, length-drop size behind)) (omega arith) in
    λ i. more (constructed class number (a i)) (b i)

pub nodes_seen-cons : (n : Node) (ns : List Node) → nodes_seen (n ∷ ns) ≡ front_node n.class n.number n.content ns
unfolding elements_in
nodes_seen-cons n ns = front_is n.content n.class n.number ns

constructed_seen : (class number : ℕ) (inner rest : List Node) → nodes_seen (node_with class number (Nodes (length inner)) ∷ (inner ++ rest)) ≡ more (constructed class number (nodes_seen inner)) (nodes_seen rest)
constructed_seen class number inner rest =
    let a = take_at inner rest (length inner) refl in
    let b = drop_at inner rest (length inner) refl in
    nodes_seen-cons (node_with class number (Nodes (length inner))) (inner ++ rest) ∙ (λ i. more (constructed class number (nodes_seen (a i))) (nodes_seen (b i)))

whole_constructed : (class number : ℕ) (inner : List Node) → AreWhole (node_with class number (Nodes (length inner)) ∷ inner)
whole_constructed class number inner =
    let n : Node = node_with class number (Nodes (length inner)) in
    let alone : nodes_seen (n ∷ inner) ≡ more (constructed class number (nodes_seen inner)) (nodes_seen []) = ap (λ (ms : List Node). nodes_seen (n ∷ ms)) (sym (append-nil inner)) ∙ constructed_seen class number inner [] in
    record { apart = λ rest. constructed_seen class number inner rest ∙ ap (λ (es : Elements). joined es (nodes_seen rest)) (sym (alone ∙ ap (λ (es : Elements). more (constructed class number (nodes_seen inner)) es) (no_nodes 0))) }

whole_append : (xs ys : List Node) → AreWhole xs → AreWhole ys → AreWhole (xs ++ ys)
whole_append xs ys a b = record {
  apart = λ rest. ap nodes_seen (append_assoc xs ys rest) ∙ a.apart (ys ++ rest) ∙ ap (λ (es : Elements). joined (nodes_seen xs) es) (b.apart rest)
      ∙ sym (joined-assoc (nodes_seen xs) (nodes_seen ys) (nodes_seen rest)) ∙ ap (λ (es : Elements). joined es (nodes_seen rest)) (sym (a.apart ys));
}

-- nothing was added
pub adds_none : (old : List Node) → Adds old old none
adds_none old = record { nodes = []; is = sym (append-nil old); whole = record { apart = λ rest. ap (λ (es : Elements). joined es (nodes_seen rest)) (sym (no_nodes 0)) }; seen = no_nodes 0 }

-- one more element was added
pub adds_more : (old mid new : List Node) (front es : Elements) → Adds old mid front → Adds mid new es → Adds old new (joined front es)
adds_more old mid new front es a b = record {
  nodes = a.nodes ++ b.nodes;
  is = b.is ∙ ap (λ (ms : List Node). ms ++ b.nodes) a.is ∙ append_assoc old a.nodes b.nodes;
  whole = whole_append a.nodes b.nodes a.whole b.whole;
  seen = a.whole.apart b.nodes ∙ ap (λ (fs : Elements). joined fs (nodes_seen b.nodes)) a.seen ∙ ap (λ (fs : Elements). joined front fs) b.seen;
}

-- one node that stands for an element, whatever follows it, was added
pub adds_alone : (old new : List Node) (node : Node) (e : Element) → ((rest : List Node) → nodes_seen (node ∷ rest) ≡ more e (nodes_seen rest)) → new ≡ old ++ node ∷ [] → Adds old new (more e none)
adds_alone old new node e stands is =
    let only : nodes_seen (node ∷ []) ≡ more e none = stands [] ∙ ap (λ (es : Elements). more e es) (no_nodes 0) in
    record { nodes = node ∷ []; is = is; whole = record { apart = λ rest. stands rest ∙ ap (λ (es : Elements). joined es (nodes_seen rest)) (sym only) }; seen = only }

-- a node was added, then those within it, and the node was told how many these are
pub adds_constructed : (old mid inner new : List Node) (first : Node) (class number place : ℕ) (es : Elements) → place ≡ length old → mid ≡ old ++ first ∷ [] → Adds mid inner es
    → new ≡ set inner place (node_with class number (Nodes (length inner - (place + 1)))) → Adds old new (more (constructed class number es) none)
adds_constructed old mid inner new first class number place es at start a is =
    let parts : inner ≡ old ++ first ∷ a.nodes = a.is ∙ ap (λ (ms : List Node). ms ++ a.nodes) start ∙ append_assoc old (first ∷ []) a.nodes in
    let size : length inner - (place + 1) ≡ length a.nodes = omega (arith, ap length parts, length-append old (first ∷ a.nodes)) in
    let node : Node = node_with class number (Nodes (length a.nodes)) in
    let new-is : new ≡ old ++ node ∷ a.nodes = is ∙ ap (λ (n : ℕ). set inner place (node_with class number (Nodes n))) size ∙ ap (λ (n : ℕ). set inner n node) at ∙ ap (λ (ms : List Node). set ms (length old) node) parts ∙ set-append_seam old first a.nodes node in
    let alone : nodes_seen (node ∷ a.nodes) ≡ more (constructed class number (nodes_seen a.nodes)) none = ap (λ (ms : List Node). nodes_seen (node ∷ ms)) (sym (append-nil a.nodes)) ∙ constructed_seen class number a.nodes []
    ∙ ap (λ (es : Elements). more (constructed class number (nodes_seen a.nodes)) es) (no_nodes 0) in
    record {
      nodes = node ∷ a.nodes;
      is = new-is;
      whole = whole_constructed class number a.nodes;
      seen = alone ∙ ap (λ (fs : Elements). more (constructed class number fs) none) a.seen;
    }

abbrev mutual
  -- how many elements there are, at all depths
  pub element_count : Element → ℕ
  element_count (primitive class number contents) = 1
  element_count (constructed class number inner) = 1 + elements_count inner

  pub elements_count : Elements → ℕ
  elements_count none = 0
  elements_count (more e es) = element_count e + elements_count es

counted : (es fs : Elements) → elements_count (joined es fs) ≡ elements_count es + elements_count fs
counted none fs = omega arith
counted (more e es) fs = omega (arith, counted es fs)

pub first_some : (es : Elements) (x : Element × Elements) → Some x ≡ first_of es → es ≡ more x.0 x.1
first_some none x h = absurd cc
first_some (more e es) x h = let p : x ≡ (e, es) = cc in ap (λ (y : Element × Elements). more y.0 y.1) (sym p)

-- an element within another has fewer elements
pub fewer : (self child : Element) (class number : ℕ) (all front left rest : Elements) → self ≡ constructed class number all → joined front left ≡ all → Some (child, rest) ≡ first_of left → element_count child < element_count self
fewer self child class number all front left rest self-is parts next =
    let whole = ap element_count self-is in
    let inner = sym (counted front left) ∙ ap elements_count parts in
    let first = ap elements_count (first_some left (child, rest) next) in
    omega (arith, whole, inner, first)

pub first_none : (es : Elements) → None ≡ first_of es → es ≡ none
first_none none h = refl
first_none (more e es) h = absurd cc

-- a row of copies grows by the next one
pub copied_more : (done : List Tlv) (t : Tlv) (child : Element) (left rest all : Elements) → element t ≡ child → Some (child, rest) ≡ first_of left → joined (elements done) left ≡ all → joined (elements (done ++ t ∷ [])) rest ≡ all
copied_more done t child left rest all same next so_far =
    ap (λ (es : Elements). joined es rest) (elements-push done t) ∙ joined-assoc (elements done) (more (element t) none) rest
    ∙ ap (λ (e : Element). joined (elements done) (more e rest)) same ∙ ap (λ (es : Elements). joined (elements done) es) (sym (first_some left (child, rest) next)) ∙ so_far

-- and is whole at the end
pub copied_all : (done : List Tlv) (left all : Elements) → None ≡ first_of left → joined (elements done) left ≡ all → elements done ≡ all
copied_all done left all end so_far = sym (joined-none (elements done)) ∙ ap (λ (es : Elements). joined (elements done) es) (sym (first_none left end)) ∙ so_far

-- what the first node stands for, and what is behind it
pub split_node : (nodes : List Node) (node : Node) (behind : List Node) (content : Content) → nodes ≡ node ∷ behind → node.content ≡ content → nodes_seen nodes ≡ front_node node.class node.number content behind
split_node nodes node behind content is content-is = ap nodes_seen is ∙ nodes_seen-cons node behind ∙ ap (λ (k : Content). front_node node.class node.number k behind) content-is

-- no node is no element
pub split_none : (nodes : List Node) → length nodes ≡ 0 → None ≡ first_of (nodes_seen nodes)
split_none [] e = ap first_of (sym (no_nodes 0))
split_none (node ∷ behind) e = absurd (omega arith)
