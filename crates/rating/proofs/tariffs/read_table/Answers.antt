use Rattle.std.proofs.Common.{◌≡◌, ◌++◌, ◌∷◌, [], Some, None, if◌then◌else◌, ◌∙◌, rules}
use Rattle.rating.specs.Row.{tariff_row}
use Rattle.rating.specs.Grammar.{may_follow}
use Rattle.rating.proofs.Steps.{read_step}
use Rattle.rating.proofs.tariffs.read_table.Goals as goal

pub loop-fields-preserved : goal.loop-fields-preserved
loop-fields-preserved c =
    let row : tariff_row c.fields-item.result ≡ Some c.in-Some.read = search rules in
    let taken : Some c.in-Some-2.next ≡ (if may_follow c.loop-fields.reading c.in-Some.read then Some (c.loop-fields.reading ++ c.in-Some.read ∷ []) else None) = search rules in
    let step = read_step c.loop-fields.reading c.in-Some-2.next c.loop-fields.fields-index c.args.rows.now c.fields-item.result c.in-Some.read c.loop-fields-test.true c.fields-item.is row taken c.loop-fields.invariant.read in
    record { run = c.loop-fields.invariant.run ∙ step.run; read = step.read }
