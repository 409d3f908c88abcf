use Rattle.std.proofs.Common.{ℕ, take, drop, ap, sym, ◌∙◌}
use Rattle.std.proofs.lemmas.List.{take_min, drop_min}
use Rattle.ber.specs.Element.{first_of}
use Rattle.ber.proofs.Nodes.{split_node, split_none}
use Rattle.ber.proofs.tlv_ref.Row.split_first.Goals as goal

pub returns-in-Octets : goal.returns-in-Octets
returns-in-Octets c =
    let whole = split_node c.args.self.now.nodes.now c.in_ok-node.node.now c.in_ok-node.behind.now _ c.in_ok-node.ensures.cases.0 c.in-Octets.is in
    rw (c.primitive_ref-tlv.ensures, c.of.ensures) (sym (ap first_of whole))

pub returns-in-Nodes : goal.returns-in-Nodes
returns-in-Nodes c =
    let whole = split_node c.args.self.now.nodes.now c.in_ok-node.node.now c.in_ok-node.behind.now _ c.in_ok-node.ensures.cases.0 c.in-Nodes.is in
    let front = c.split_at.ensures.front ∙ ap (λ (n : ℕ). take n c.in_ok-node.behind.now) c.min.ensures ∙ take_min c.in-Nodes.size c.in_ok-node.behind.now in
    let back = c.split_at.ensures.back ∙ ap (λ (n : ℕ). drop n c.in_ok-node.behind.now) c.min.ensures ∙ drop_min c.in-Nodes.size c.in_ok-node.behind.now in
    rw (c.constructed_ref-tlv.ensures, c.of-in-Nodes.ensures, c.of-in-Nodes-2.ensures, front, back) (sym (ap first_of whole))

pub returns-in_err-node : goal.returns-in_err-node
returns-in_err-node c = rw c.from_residual.ensures (split_none c.args.self.now.nodes.now c.in_err-node.ensures.cases)
