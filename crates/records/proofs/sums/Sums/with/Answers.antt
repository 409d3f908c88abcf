use Rattle.std.proofs.Common.{◌≤◌, ◌∙◌, length, sym, ap, arith}
use Rattle.std.proofs.lemmas.List.{drop_all}
use Rattle.records.specs.Sums.{sums_with}
use Rattle.records.proofs.Summed.{sums_with-none}
use Rattle.records.proofs.sums.Sums.with.Goals as goal

pub returns : goal.returns
returns c =
    let past : length c.args.used.now ≤ c.loop-container.container-index = omega arith in
    sym (sums_with-none c.loop-container.sums c.loop-container.invariant.within) ∙ ap (sums_with c.loop-container.sums) (sym (drop_all c.loop-container.container-index c.args.used.now past)) ∙ c.loop-container.invariant.is
