use Rattle.std.proofs.Common.{arith}
use Rattle.smf_model.specs.Traffic.{extend_of}
use Rattle.smf_core.proofs.InPlace.{mapped_more}
use Rattle.smf_core.proofs.counting.extend_each.Goals as goal

pub loop-holding-preserved : goal.loop-holding-preserved
loop-holding-preserved c =
    mapped_more (extend_of c.args.report.now) c.args.holdings.now c.loop-holding.holdings c.loop-holding.holding-index c.holding-item.result c.in_ok-holding.field-0
    (omega arith) c.loop-holding.invariant c.in_ok-holding.ensures.value
