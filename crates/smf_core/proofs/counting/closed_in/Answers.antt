use Rattle.std.proofs.Common.{◌∙◌, map, ap, arith}
use Rattle.std.proofs.lemmas.List.{with_items_is}
use Rattle.smf_model.specs.Traffic.{close_of}
use Rattle.smf_core.proofs.counting.closed_in.Goals as goal

pub returns : goal.returns
returns c =
    c.from_vec.ensures
    ∙ with_items_is c.into_vec-next.result c.close_each.new.holdings (omega arith)
    ∙ c.close_each.ensures
    ∙ ap (map (close_of c.args.group c.args.moment c.args.trigger)) (c.as_mut_slice.ensures.value ∙ c.into_vec-next.ensures)
