use Rattle.std.proofs.Common.{◌∙◌, sym, ap}
use Rattle.ber.specs.Element.{Elements}
use Rattle.ber.specs.Written.{onto}
use Rattle.records.specs.Written.{each, trigger_element}
use Rattle.records.proofs.Fronted.{fits, no_triggers, some_triggers}
use Rattle.records.proofs.writing.triggers_of.Goals as goal

pub close-requires : goal.close-requires
close-requires c = fits (each trigger_element c.args.kinds.now) c.args.out.now _ _ c.len-behind.ensures c.in_ok-triggers.ensures

pub returns : goal.returns
returns c =
    c.in_ok-close.ensures (each trigger_element c.args.kinds.now) c.args.out.now (sym c.len-behind.ensures) c.in_ok-triggers.ensures
    ∙ ap (λ (es : Elements). onto es c.args.out.now) (sym (some_triggers c.args.kinds.now (sym c.is_empty.ensures ∙ c.if-is_empty.false)))

pub returns-then-is_empty : goal.returns-then-is_empty
returns-then-is_empty c = ap (λ (es : Elements). onto es c.args.out.now) (sym (no_triggers c.args.kinds.now (sym c.is_empty.ensures ∙ c.if-is_empty.true)))
