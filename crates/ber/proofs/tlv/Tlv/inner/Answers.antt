use Rattle.std.proofs.Common.{ap, sym, ◌∙◌}
use Rattle.ber.specs.declared.tlv.Body.{Body}
use Rattle.ber.specs.Element.{inner_of, element_of}
use Rattle.ber.proofs.Turns.{element-constructed}
use Rattle.ber.proofs.tlv.Tlv.inner.Goals as goal

pub returns-in-Constructed : goal.returns-in-Constructed
returns-in-Constructed c =
    let t = c.args.self.now in
    rw c.as_slice.ensures (sym (ap (λ (b : Body). inner_of (element_of c.args.self.now.class c.args.self.now.number b)) c.in-Constructed.is
    ∙ ap inner_of (element-constructed c.args.self.now.class c.args.self.now.number c.in-Constructed.inner)))
