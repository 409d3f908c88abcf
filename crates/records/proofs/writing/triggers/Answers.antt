use Rattle.records.specs.Written.{trigger_element}
use Rattle.records.proofs.Fronted.{fronted, all_fronted}
use Rattle.records.proofs.writing.triggers.Goals as goal

pub loop-last-preserved : goal.loop-last-preserved
loop-last-preserved c = fronted trigger_element c.loop-last.left.now c.in-Some.front.now c.in-Some.last.now c.loop-last.out _ _ c.in-Some.ensures.cases.0 c.in_ok-trigger.ensures c.loop-last.invariant

pub returns : goal.returns
returns c = all_fronted trigger_element c.loop-last.left.now c.loop-last.out _ c.in_default.ensures.cases c.loop-last.invariant
