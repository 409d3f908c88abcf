use Rattle.std.proofs.Common.{◌∙◌, map, ap, arith}
use Rattle.std.proofs.lemmas.List.{with_items_is}
use Rattle.smf_model.specs.Traffic.{count_entry}
use Rattle.smf_core.proofs.counting.counted_entries.Goals as goal

pub returns : goal.returns
returns c =
    c.from_vec.ensures
    ∙ with_items_is c.into_vec-next.result c.count_each.new.groups (omega arith)
    ∙ c.count_each.ensures
    ∙ ap (map (count_entry c.args.report.now)) (c.as_mut_slice.ensures.value ∙ c.into_vec-next.ensures)
