use Rattle.std.proofs.Common.{arith}
use Rattle.smf_model.specs.Traffic.{count_entry}
use Rattle.smf_core.proofs.InPlace.{mapped_more}
use Rattle.smf_core.proofs.counting.count_each.Goals as goal

pub loop-entry-preserved : goal.loop-entry-preserved
loop-entry-preserved c =
    mapped_more (count_entry c.args.report.now) c.args.groups.now c.loop-entry.groups c.loop-entry.entry-index c.entry-item.result c.counted_entry.result
    (omega arith) c.loop-entry.invariant c.counted_entry.ensures
