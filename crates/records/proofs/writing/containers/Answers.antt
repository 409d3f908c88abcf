use Rattle.records.specs.Written.{used_element}
use Rattle.records.proofs.Fronted.{fronted, all_fronted}
use Rattle.records.proofs.writing.containers.Goals as goal

pub loop-last-preserved : goal.loop-last-preserved
loop-last-preserved c = fronted used_element c.loop-last.left.now c.in-Some.front.now c.in-Some.last.now c.loop-last.out _ _ c.in-Some.ensures.cases.0 c.in_ok-container.ensures c.loop-last.invariant

pub returns : goal.returns
returns c = all_fronted used_element c.loop-last.left.now c.loop-last.out _ c.in_default.ensures.cases c.loop-last.invariant
