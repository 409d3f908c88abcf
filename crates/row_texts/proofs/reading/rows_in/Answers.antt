use Rattle.std.proofs.Common.{◌≡◌, ◌+◌, ◌++◌, ◌∷◌, ◌∙◌, [], sym, arith, rules}
use Rattle.std.proofs.lemmas.List.{take_rest}
use Rattle.row_texts.proofs.Lines.{at_end, goes_on, no_row}
use Rattle.row_texts.proofs.reading.rows_in.Goals as goal

pub returns-then-end-rest : goal.returns-then-end-rest
returns-then-end-rest c = c.ended.ensures ∙ at_end c.args.text.now c.loop-rest.rest.now c.piece_length-end.result c.loop-rest.rows c.piece_length-end.ensures.last (omega arith) c.loop-rest.invariant

pub returns-in-None : goal.returns-in-None
returns-in-None c = no_row c.args.text.now c.loop-rest.rest.now c.piece_length-end.result c.loop-rest.rows c.piece_length-end.ensures.first (omega arith) c.loop-rest.invariant (search rules)

pub loop-rest-preserved : goal.loop-rest-preserved
loop-rest-preserved c =
    let pushed : c.push.new.self ≡ c.loop-rest.rows ++ c.in-Some.row ∷ [] = search rules in
    rw (take_rest c.loop-rest.rest.now (c.piece_length-end.result + 1), pushed)
    (goes_on c.args.text.now c.loop-rest.rest.now c.piece_length-end.result c.loop-rest.rows c.in-Some.row c.piece_length-end.ensures.first (omega arith) c.loop-rest.invariant (search rules))
