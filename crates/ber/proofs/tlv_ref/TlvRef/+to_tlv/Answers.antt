use Rattle.std.proofs.Common.{◌∙◌, List, sym, refl, ap, arith}
use Rattle.ber.specs.declared.tlv.Tlv.{Tlv}
use Rattle.ber.specs.declared.tlv_ref.BodyRef.{BodyRef}
use Rattle.ber.specs.Element.{Elements, constructed, elements}
use Rattle.ber.specs.Tape.{seen, seen_of, row_seen}
use Rattle.ber.proofs.Nodes.{fewer, copied_more, copied_all}
use Rattle.ber.proofs.Shortest.{tag_parts}
use Rattle.ber.proofs.tlv_ref.TlvRef.+to_tlv.Goals as goal

pub loop-child-init : goal.loop-child-init
loop-child-init t c = rw c.new-copies.ensures.items refl

pub to_tlv-requires : goal.to_tlv-requires
to_tlv-requires t c =
    let less = fewer (seen c.args.self.now) (seen c.in-Some.child) c.args.self.now.class c.args.self.now.number (row_seen c.in-Constructed.inner) (elements c.loop-child.copies.items) (row_seen c.loop-child.left) (row_seen c.in-Some.rest)
    (ap (λ (b : BodyRef). seen_of c.args.self.now.class c.args.self.now.number b) c.in-Constructed.is) c.loop-child.invariant c.in-Some.ensures in
    (omega (arith, less), tt)

pub loop-child-preserved : goal.loop-child-preserved
loop-child-preserved t c =
    rw c.in_ok-push-in-Constructed.ensures.items
    (copied_more c.loop-child.copies.items c.in_ok-to_tlv-in-Constructed.field-0 (seen c.in-Some.child) (row_seen c.loop-child.left) (row_seen c.in-Some.rest) (row_seen c.in-Constructed.inner)
    c.in_ok-to_tlv-in-Constructed.ensures c.in-Some.ensures c.loop-child.invariant)

pub returns-in_default : goal.returns-in_default
returns-in_default t c =
    let self-is = ap (λ (b : BodyRef). seen_of c.args.self.now.class c.args.self.now.number b) c.in-Constructed.is in
    let copied = copied_all c.loop-child.copies.items (row_seen c.loop-child.left) (row_seen c.in-Constructed.inner) c.in_default.ensures c.loop-child.invariant in
    c.constructed.ensures ∙ ap (λ (ts : List Tlv). constructed c.tag-tag.result.class c.tag-tag.result.number (elements ts)) c.from_vec-in-Constructed.ensures
    ∙ ap (λ (es : Elements). constructed c.tag-tag.result.class c.tag-tag.result.number es) copied
    ∙ sym (tag_parts c.tag-tag.result (seen c.args.self.now) c.args.self.now.class c.args.self.now.number (row_seen c.in-Constructed.inner) self-is c.tag-tag.ensures)
