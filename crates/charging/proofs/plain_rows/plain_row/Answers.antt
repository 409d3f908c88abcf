use Rattle.std.proofs.Common.{◌≡◌, ◌+◌, ◌++◌, ◌∷◌, [], take, arith, rules}
use Rattle.std.proofs.lemmas.List.{take_rest}
use Rattle.std.specs.Str.{is_utf8}
use Rattle.charging.proofs.FieldTexts.{no_text, some_text}
use Rattle.charging.proofs.PlainPieces.{bad_line, whole_line, goes_on}
use Rattle.charging.proofs.plain_rows.plain_row.Goals as goal

pub returns-in-None : goal.returns-in-None
returns-in-None c =
    let field = take c.piece_length-end.result c.loop-fields.rest.now in
    let no = no_text (is_utf8 field) field c.in_ok-text.field-0 c.in_ok-text.ensures c.in-None.is in
    bad_line c.args.line.now c.loop-fields.rest.now c.piece_length-end.result c.piece_length-end.ensures.first c.piece_length-end.ensures.last c.loop-fields.invariant.utf8 no

pub returns-then-end-rest : goal.returns-then-end-rest
returns-then-end-rest c =
    let field = take c.piece_length-end.result c.loop-fields.rest.now in
    let text = some_text (is_utf8 field) field c.in-Some.text c.in_ok-text.field-0 c.in_ok-text.ensures c.in-Some.is in
    let pushed : c.push.new.self ≡ c.loop-fields.fields ++ c.in-Some.text ∷ [] = search rules in
    whole_line c.args.line.now c.loop-fields.rest.now c.in-Some.text c.piece_length-end.result c.loop-fields.fields c.push.new.self c.piece_length-end.ensures.last (omega arith)
    c.loop-fields.invariant.taken c.loop-fields.invariant.utf8 text.0 text.1 pushed

pub loop-fields-preserved : goal.loop-fields-preserved
loop-fields-preserved c =
    let field = take c.piece_length-end.result c.loop-fields.rest.now in
    let text = some_text (is_utf8 field) field c.in-Some.text c.in_ok-text.field-0 c.in_ok-text.ensures c.in-Some.is in
    let pushed : c.push.new.self ≡ c.loop-fields.fields ++ c.in-Some.text ∷ [] = search rules in
    let more = goes_on c.args.line.now c.loop-fields.rest.now c.in-Some.text c.piece_length-end.result c.loop-fields.fields c.push.new.self c.piece_length-end.ensures.first (omega arith)
    c.loop-fields.invariant.taken c.loop-fields.invariant.utf8 text.0 text.1 pushed in
    rw (take_rest c.loop-fields.rest.now (c.piece_length-end.result + 1)) (record { taken = more.taken; utf8 = more.utf8 })
