use Rattle.std.proofs.Common.{arith}
use Rattle.smf_model.specs.Traffic.{close_of}
use Rattle.smf_core.proofs.InPlace.{mapped_more}
use Rattle.smf_core.proofs.counting.close_each.Goals as goal

pub loop-holding-preserved : goal.loop-holding-preserved
loop-holding-preserved c =
    mapped_more (close_of c.args.group c.args.moment c.args.trigger) c.args.holdings.now c.loop-holding.holdings c.loop-holding.holding-index c.holding-item.result c.close_in.result
    (omega arith) c.loop-holding.invariant c.close_in.ensures
