use Rattle.std.proofs.Common.{◌≡◌, ◌+◌, ◌∙◌, ◌++◌, ◌∷◌, [], Some, drop, ap, sym, arith, rules}
use Rattle.std.proofs.lemmas.List.{take_rest}
use Rattle.row_fields.specs.Fields.{groups_in}
use Rattle.rows.specs.Pieces.{pieces}
use Rattle.row_fields.proofs.Pieces.{bad_group, last_group, more_groups, next_group, one_more}
use Rattle.row_fields.proofs.group_lists.groups_in.Goals as goal

pub returns-in_default : goal.returns-in_default
returns-in_default c =
    let none = bad_group c.loop-group.rest.now c.piece_length-count.result c.piece_length-count.ensures.first c.piece_length-count.ensures.last (search rules) in
    sym (c.loop-group.invariant ∙ ap (more_groups c.loop-group.groups) none)

pub returns-then-count-rest : goal.returns-then-count-rest
returns-then-count-rest c =
    let one = last_group c.loop-group.rest.now c.piece_length-count.result c.in-Some.group c.piece_length-count.ensures.last (omega arith) (search rules) in
    let pushed : c.push.new.self ≡ c.loop-group.groups ++ c.in-Some.group ∷ [] = search rules in
    sym (c.loop-group.invariant ∙ ap (more_groups c.loop-group.groups) one ∙ ap Some (sym pushed))

pub loop-group-preserved : goal.loop-group-preserved
loop-group-preserved c =
    let more = next_group c.loop-group.rest.now c.piece_length-count.result c.in-Some.group c.piece_length-count.ensures.first (omega arith) (search rules) in
    let pushed : c.push.new.self ≡ c.loop-group.groups ++ c.in-Some.group ∷ [] = search rules in
    rw (take_rest c.loop-group.rest.now (c.piece_length-count.result + 1), pushed)
    (c.loop-group.invariant ∙ ap (more_groups c.loop-group.groups) more ∙ one_more c.loop-group.groups c.in-Some.group (groups_in (pieces 32 (drop (c.piece_length-count.result + 1) c.loop-group.rest.now))))
