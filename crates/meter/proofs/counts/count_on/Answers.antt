use Rattle.std.proofs.Common.{sym, ◌∙◌}
use Rattle.meter.proofs.Groups.{counted_read, counted_new}
use Rattle.meter.proofs.counts.count_on.Goals as goal

pub returns-in-Some-clause-value : goal.returns-in-Some-clause-value
returns-in-Some-clause-value c =
    let at = rw c.deref.ensures.value at c.place_of.ensures.value in
    counted_read c.args.counts.now.items c.args.group c.args.lsn c.in-Some.at c.index-count.result.now (sym at ∙ c.in-Some.is) c.index-count.ensures

pub returns-in-None-clause-value : goal.returns-in-None-clause-value
returns-in-None-clause-value c =
    let at = rw c.deref.ensures.value at c.place_of.ensures.value in
    c.push_reserved.ensures.items ∙ counted_new c.args.counts.now.items c.args.group c.args.lsn (sym at ∙ c.in-None.is)
