use Rattle.std.proofs.Common.{◌≡◌, ◌+◌, ◌∙◌, Some, Ok, true, take, sym, ap, subst, rules}
use Rattle.counters.specs.Row.{counter_row, counter_rows}
use Rattle.counters.specs.Grammar.{may_follow}
use Rattle.counters.specs.Caches.{IsOf}
use Rattle.counters.proofs.Steps.{stepped}
use Rattle.counters.proofs.counters.read_table.Goals as goal

pub loop-at-preserved : goal.loop-at-preserved
loop-at-preserved c =
    let row : counter_row c.index-rows-at.result ≡ Some c.in-Some.row = search rules in
    let ok : c.take.result ≡ Ok true = search rules in
    let may : true ≡ may_follow (counter_rows (take c.loop-at.at c.args.rows.now)) c.in-Some.row = sym c.if-not-branch.false ∙ c.in_ok-take.ensures.taken (counter_rows (take c.loop-at.at c.args.rows.now)) c.loop-at.invariant.table in
    let step = stepped c.loop-at.at c.in-Some.row c.index-rows-at.result c.args.rows.now c.loop-at-test.true c.index-rows-at.is row may in
    record { run = c.loop-at.invariant.run ∙ step.run; count = step.count ∙ ap (λ n. n + 1) c.loop-at.invariant.count; table = subst (λ rows. IsOf rows c.take.new.table) (sym step.read) (c.take.ensures.table (counter_rows (take c.loop-at.at c.args.rows.now)) c.loop-at.invariant.table ok) }
