use Rattle.std.proofs.Common.{◌≡◌, ◌≢◌, ◌-◌, ◌∙◌, [], Ok, Err, ap, sym, rules}
use Rattle.chf_rows.specs.Setup.{setup_answer}
use Rattle.charging.specs.Accepted.{number_at, outcome, setup_rows}
use Rattle.charging.proofs.Begun.{named_ok, named_row, outcome_by}
use Rattle.charging.proofs.accepted.read_items.Goals as goal

pub returns-in-Ok-clause-ok : goal.returns-in-Ok-clause-ok
returns-in-Ok-clause-ok g c =
    let all = g.I.Items.all c.args.items.now in
    let is : c.as_slice.result.now ≡ setup_rows all = search rules in
    let some : c.as_slice.result.now ≢ [] = search rules in
    rw (outcome_by c.as_slice.result.now all (Ok c.in-Ok.setup) is some (named_ok (setup_answer c.as_slice.result.now) c.in-Ok.setup c.in-Ok.ensures)) c.unless_bad.ensures.ok

pub returns-in-Ok-clause-bad : goal.returns-in-Ok-clause-bad
returns-in-Ok-clause-bad g c = λ row e.
    let all = g.I.Items.all c.args.items.now in
    let is : c.as_slice.result.now ≡ setup_rows all = search rules in
    let some : c.as_slice.result.now ≢ [] = search rules in
    outcome_by c.as_slice.result.now all (Ok c.in-Ok.setup) is some (named_ok (setup_answer c.as_slice.result.now) c.in-Ok.setup c.in-Ok.ensures) ∙ c.unless_bad.ensures.bad row e

pub returns-in-Err-BadRow-clause-bad : goal.returns-in-Err-BadRow-clause-bad
returns-in-Err-BadRow-clause-bad g c = λ row e.
    let all = g.I.Items.all c.args.items.now in
    let is : c.as_slice.result.now ≡ setup_rows all = search rules in
    let some : c.as_slice.result.now ≢ [] = search rules in
    let read = rw c.in-Err-BadRow.field-0-is at c.in-Err-BadRow.ensures in
    let comes : outcome all ≡ Err (number_at (c.in-Err-BadRow.row - 1) 0 1 all) = outcome_by c.as_slice.result.now all (Err c.in-Err-BadRow.row) is some (named_row (setup_answer c.as_slice.result.now) c.in-Err-BadRow.row read) in
    comes ∙ ap Err (sym (c.bad_row.ensures row cc))
