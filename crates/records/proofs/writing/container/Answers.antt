use Rattle.std.proofs.Common.{sym}
use Rattle.ber.specs.Element.{joined}
use Rattle.records.specs.Written.{amount_fields, time_fields, trigger_fields}
use Rattle.records.proofs.Fronted.{fits, three}
use Rattle.records.proofs.writing.container.Goals as goal

pub close-requires : goal.close-requires
close-requires c =
    let u = c.args.used.now in
    fits (joined (amount_fields u) (joined (time_fields u) (trigger_fields u))) c.args.out.now _ _ c.len-behind.ensures
    (three (amount_fields u) (time_fields u) (trigger_fields u) _ _ _ c.args.out.now c.in_ok-amounts.ensures c.in_ok-times.ensures c.in_ok-ending.ensures)

pub returns : goal.returns
returns c =
    let u = c.args.used.now in
    c.in_ok-close.ensures (joined (amount_fields u) (joined (time_fields u) (trigger_fields u))) c.args.out.now (sym c.len-behind.ensures)
    (three (amount_fields u) (time_fields u) (trigger_fields u) _ _ _ c.args.out.now c.in_ok-amounts.ensures c.in_ok-times.ensures c.in_ok-ending.ensures)
