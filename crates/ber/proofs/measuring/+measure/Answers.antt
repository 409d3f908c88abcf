use Rattle.std.proofs.Common.{◌≡◌, List, length, ap, sym, ◌∙◌, arith, rules}
use Rattle.ber.specs.declared.tlv.Tlv.{Tlv}
use Rattle.ber.specs.declared.tlv.Body.{Body}
use Rattle.ber.specs.Element.{element, elements, element_of, constructed}
use Rattle.ber.proofs.Turns.{element-constructed}
use Rattle.ber.proofs.Shortest.{tag_parts}
use Rattle.ber.proofs.Measured.{on_ok, measured, lengths_measured}
use Rattle.ber.proofs.measuring.+measure.Goals as goal

pub returns-after-loop-child-clause-count : goal.returns-after-loop-child-clause-count
returns-after-loop-child-clause-count t c =
    let e-is = ap (λ (b : Body). element_of c.args.tlv.now.class c.args.tlv.now.number b) c.in-Constructed.is ∙ element-constructed c.args.tlv.now.class c.args.tlv.now.number c.in-Constructed.inner
    ∙ ap (λ (ts : List Tlv). constructed c.args.tlv.now.class c.args.tlv.now.number (elements ts)) (sym c.as_slice-child-items.ensures) in
    measured c.tag-tag.result (element c.args.tlv.now) c.as_slice-child-items.result.now c.loop-child.child-index c.loop-child.count c.whole-in-Constructed.result
    (tag_parts c.tag-tag.result (element c.args.tlv.now) c.args.tlv.now.class c.args.tlv.now.number (elements c.as_slice-child-items.result.now) e-is c.tag-tag.ensures) c.tag-tag.ensures (omega arith) c.loop-child.invariant.count
    c.whole-in-Constructed.ensures

pub returns-after-loop-child-clause-lengths : goal.returns-after-loop-child-clause-lengths
returns-after-loop-child-clause-lengths t c =
    let e-is = ap (λ (b : Body). element_of c.args.tlv.now.class c.args.tlv.now.number b) c.in-Constructed.is ∙ element-constructed c.args.tlv.now.class c.args.tlv.now.number c.in-Constructed.inner
    ∙ ap (λ (ts : List Tlv). constructed c.args.tlv.now.class c.args.tlv.now.number (elements ts)) (sym c.as_slice-child-items.ensures) in
    let at : c.len-place.result ≡ length c.args.lengths.now.items = search rules in
    on_ok c.whole-in-Constructed.result _ (lengths_measured c.args.lengths.now.items c.loop-child.lengths.items (element c.args.tlv.now) c.args.tlv.now.class c.args.tlv.now.number c.as_slice-child-items.result.now c.loop-child.child-index c.loop-child.count c.len-place.result
    e-is (omega arith) at c.loop-child.invariant.count c.loop-child.invariant.lengths)
