use Rattle.std.proofs.Common.{◌∙◌, List, ap, sym}
use Rattle.units.specs.declared.request.UnitUsage.{UnitUsage}
use Rattle.ber.specs.Element.{joined}
use Rattle.ber.specs.Written.{onto}
use Rattle.records.specs.Written.{name_fields, usage_field, other_fields}
use Rattle.records.proofs.Fronted.{fits, three}
use Rattle.records.proofs.writing.whole.Goals as goal

pub close-requires : goal.close-requires
close-requires c =
    let r = c.args.entry.now in
    fits (joined (name_fields r) (joined (usage_field r.usage) (other_fields r))) c.args.out.now _ _ c.len-behind.ensures
    (three (name_fields r) (usage_field r.usage) (other_fields r) _ _ c.others.new.out c.args.out.now c.in_ok-names.ensures
    (c.in_ok-usage_of.ensures ∙ ap (λ (us : List UnitUsage). onto (usage_field us) c.others.new.out) c.as_slice.ensures) c.in_ok-others.ensures)

pub returns : goal.returns
returns c =
    let r = c.args.entry.now in
    c.in_ok-close.ensures (joined (name_fields r) (joined (usage_field r.usage) (other_fields r))) c.args.out.now (sym c.len-behind.ensures)
    (three (name_fields r) (usage_field r.usage) (other_fields r) _ _ c.others.new.out c.args.out.now c.in_ok-names.ensures
    (c.in_ok-usage_of.ensures ∙ ap (λ (us : List UnitUsage). onto (usage_field us) c.others.new.out) c.as_slice.ensures) c.in_ok-others.ensures)
