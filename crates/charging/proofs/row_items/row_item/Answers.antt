use Rattle.std.proofs.Common.{◌≡◌, ◌∙◌, ◌++◌, ◌∷◌, [], take, ap, sym, arith, rules, add-one}
use Rattle.std.specs.Str.{is_utf8}
use Rattle.csv.specs.Records.{fields_of}
use Rattle.charging.proofs.FieldTexts.{all_fields, bad_field, good_field, next_field, no_text, past_fields, some_text}
use Rattle.charging.proofs.row_items.row_item.Goals as goal

pub returns-in-None : goal.returns-in-None
returns-in-None c =
    let next = next_field (fields_of c.args.row.now) c.loop-field.at c.in-Some.field.now c.in-Some.ensures.value in
    let no = no_text (is_utf8 c.in-Some.field.now) c.in-Some.field.now c.in_ok-text.field-0 c.in_ok-text.ensures c.in-None.is in
    bad_field (fields_of c.args.row.now) c.loop-field.at c.in-Some.field.now next c.loop-field.invariant.utf8 no

pub loop-field-smaller : goal.loop-field-smaller
loop-field-smaller c =
    let next = next_field (fields_of c.args.row.now) c.loop-field.at c.in-Some.field.now c.in-Some.ensures.value in
    omega (arith, next.within)

pub loop-field-preserved : goal.loop-field-preserved
loop-field-preserved c =
    let next = next_field (fields_of c.args.row.now) c.loop-field.at c.in-Some.field.now c.in-Some.ensures.value in
    let text = some_text (is_utf8 c.in-Some.field.now) c.in-Some.field.now c.in-Some-2.text c.in_ok-text.field-0 c.in_ok-text.ensures c.in-Some-2.is in
    let pushed : c.push.new.self ≡ c.loop-field.fields ++ c.in-Some-2.text ∷ [] = search rules in
    record {
      within = omega (arith, next.within);
      taken = rw add-one (pushed ∙ ap (λ k. k ++ c.in-Some-2.text ∷ []) c.loop-field.invariant.taken ∙ ap (λ k. take c.loop-field.at (fields_of c.args.row.now) ++ k ∷ []) text.1 ∙ sym next.front);
      utf8 = rw add-one (good_field (fields_of c.args.row.now) c.loop-field.at c.in-Some.field.now next c.loop-field.invariant.utf8 text.0);
    }

pub returns : goal.returns
returns c =
    let past = past_fields (fields_of c.args.row.now) c.loop-field.at c.in_default.ensures.value in
    rw c.loop-field.invariant.taken (all_fields (fields_of c.args.row.now) c.loop-field.at past c.loop-field.invariant.within c.loop-field.invariant.utf8)
