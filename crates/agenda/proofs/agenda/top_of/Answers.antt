use Rattle.std.proofs.Common.{◌∙◌, length, get_or, ap, sym, arith}
use Rattle.std.proofs.lemmas.Bool.{eqb-true, eqb-false}
use Rattle.agenda.proofs.Pairs.{top_empty, top_head}
use Rattle.agenda.proofs.agenda.top_of.Goals as goal

pub returns-then-is_empty-2 : goal.returns-then-is_empty-2
returns-then-is_empty-2 c =
    let some = eqb-false (length c.args.rows.now) 0 (sym c.is_empty.ensures ∙ c.if-is_empty.false) in
    let none = eqb-true (length c.as_slice-row.result.now) 0 (sym c.is_empty-2.ensures ∙ c.if-is_empty-2.true) in
    let same = ap length c.as_slice-row.ensures in
    c.nothing-then-is_empty-2.ensures ∙ top_empty c.args.rows.now c.index-rows-rows.result (omega (arith, some)) c.index-rows-rows.is (omega (arith, none, same))

pub returns-else-is_empty-2 : goal.returns-else-is_empty-2
returns-else-is_empty-2 c =
    let some = eqb-false (length c.args.rows.now) 0 (sym c.is_empty.ensures ∙ c.if-is_empty.false) in
    let any = eqb-false (length c.as_slice-row.result.now) 0 (sym c.is_empty-2.ensures ∙ c.if-is_empty-2.false) in
    let same = ap length c.as_slice-row.ensures in
    top_head c.args.rows.now c.index-rows-rows.result c.index-row-0.result (omega (arith, some)) c.index-rows-rows.is (omega (arith, any, same)) (c.index-row-0.is ∙ ap (λ xs. get_or xs 0 c.index-row-0.result) c.as_slice-row.ensures)
