use Rattle.std.proofs.Common.{List, ap, sym, refl, ◌∙◌, arith}
use Rattle.ber.specs.declared.tlv.Tlv.{Tlv}
use Rattle.ber.specs.declared.tlv.Body.{Body}
use Rattle.ber.specs.Element.{element, elements, element_of, constructed}
use Rattle.ber.proofs.Turns.{element-constructed}
use Rattle.ber.proofs.Shortest.{tag_parts}
use Rattle.ber.proofs.Measured.{split_lengths, put_is, put_fits, put_end}
use Rattle.ber.proofs.writing.+put.Goals as goal

pub loop-child-init : goal.loop-child-init
loop-child-init t c =
    let e-is = ap (λ (b : Body). element_of c.args.tlv.now.class c.args.tlv.now.number b) c.in-Constructed.is ∙ element-constructed c.args.tlv.now.class c.args.tlv.now.number c.in-Constructed.inner
    ∙ ap (λ (ts : List Tlv). constructed c.args.tlv.now.class c.args.tlv.now.number (elements ts)) (sym c.as_slice-child-items.ensures) in
    let first = split_lengths c.args.lengths.now c.in-Some.length.now c.in-Some.behind.now (element c.args.tlv.now) c.args.tlv.now.class c.args.tlv.now.number c.as_slice-child-items.result.now c.requires.known.0 c.in-Some.ensures.cases.0 e-is c.requires.known.1 in
    record {
      others = λ rest all. (split_lengths c.args.lengths.now c.in-Some.length.now c.in-Some.behind.now (element c.args.tlv.now) c.args.tlv.now.class c.args.tlv.now.number c.as_slice-child-items.result.now rest c.in-Some.ensures.cases.0 e-is all).1;
      written = refl;
      end = refl;
      size = refl;
      fits = put_fits c.tag-tag.result (element c.args.tlv.now) c.as_slice-child-items.result.now c.in-Some.length.now c.args.at _ _ _
          (tag_parts c.tag-tag.result (element c.args.tlv.now) c.args.tlv.now.class c.args.tlv.now.number (elements c.as_slice-child-items.result.now) e-is c.tag-tag.ensures) c.tag-tag.ensures c.put_tag-place.ensures.1
          c.put_length-place-in-Constructed.ensures.1 first.0 (omega (arith, c.requires.fits, c.put_tag-place.ensures.2, c.put_length-place-in-Constructed.ensures.2));
    }

pub returns-after-loop-child-clause-written : goal.returns-after-loop-child-clause-written
returns-after-loop-child-clause-written t c =
    let e-is = ap (λ (b : Body). element_of c.args.tlv.now.class c.args.tlv.now.number b) c.in-Constructed.is ∙ element-constructed c.args.tlv.now.class c.args.tlv.now.number c.in-Constructed.inner
    ∙ ap (λ (ts : List Tlv). constructed c.args.tlv.now.class c.args.tlv.now.number (elements ts)) (sym c.as_slice-child-items.ensures) in
    let parts = tag_parts c.tag-tag.result (element c.args.tlv.now) c.args.tlv.now.class c.args.tlv.now.number (elements c.as_slice-child-items.result.now) e-is c.tag-tag.ensures in
    let first = split_lengths c.args.lengths.now c.in-Some.length.now c.in-Some.behind.now (element c.args.tlv.now) c.args.tlv.now.class c.args.tlv.now.number c.as_slice-child-items.result.now c.requires.known.0 c.in-Some.ensures.cases.0 e-is c.requires.known.1 in (
      put_is c.tag-tag.result (element c.args.tlv.now) c.as_slice-child-items.result.now c.loop-child.child-index c.in-Some.length.now _ _ _ _ parts c.tag-tag.ensures (omega arith) c.put_tag-place.ensures.0
          c.put_length-place-in-Constructed.ensures.0 first.0 c.loop-child.invariant.written,
      put_end c.tag-tag.result (element c.args.tlv.now) c.as_slice-child-items.result.now c.loop-child.child-index c.in-Some.length.now c.args.at _ _ c.loop-child.place parts c.tag-tag.ensures (omega arith) c.put_tag-place.ensures.1
          c.put_length-place-in-Constructed.ensures.1 first.0 c.loop-child.invariant.end,
      omega (arith, c.loop-child.invariant.size, c.put_tag-place.ensures.2, c.put_length-place-in-Constructed.ensures.2),
    )
