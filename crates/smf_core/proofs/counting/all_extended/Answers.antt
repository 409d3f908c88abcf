use Rattle.std.proofs.Common.{◌∙◌, map, ap, arith}
use Rattle.std.proofs.lemmas.List.{with_items_is}
use Rattle.smf_model.specs.Traffic.{extend_of}
use Rattle.smf_core.proofs.counting.all_extended.Goals as goal

pub returns : goal.returns
returns c =
    c.from_vec.ensures
    ∙ with_items_is c.into_vec-next.result c.extend_each.new.holdings (omega arith)
    ∙ c.in_ok-extend_each.ensures
    ∙ ap (map (extend_of c.args.report.now)) (c.as_mut_slice.ensures.value ∙ c.into_vec-next.ensures)
