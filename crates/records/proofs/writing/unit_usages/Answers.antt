use Rattle.records.specs.Written.{usage_element}
use Rattle.records.proofs.Fronted.{fronted, all_fronted}
use Rattle.records.proofs.writing.unit_usages.Goals as goal

pub loop-last-preserved : goal.loop-last-preserved
loop-last-preserved c = fronted usage_element c.loop-last.left.now c.in-Some.front.now c.in-Some.last.now c.loop-last.out _ _ c.in-Some.ensures.cases.0 c.in_ok-unit_usage.ensures c.loop-last.invariant

pub returns : goal.returns
returns c = all_fronted usage_element c.loop-last.left.now c.loop-last.out _ c.in_default.ensures.cases c.loop-last.invariant
