use Rattle.charging_json.proofs.Walk.{pushes}
use Rattle.charging_json.specs.Triggers.{sound_kind}
use Rattle.charging_json.proofs.triggers.kinds.Goals as goal

pub loop-item-preserved : goal.loop-item-preserved
loop-item-preserved c = pushes sound_kind c.deref-item-items.result.now c.loop-item.item-index c.item-item.result c.loop-item.found.items c.push.new.self.items c.in_ok-kind.field-0 c.in-Some-2.kind c.loop-item-test.true c.item-item.is c.in_ok-kind.ensures c.in-Some-2.is c.in_ok-push-in-Some-2.ensures.items c.loop-item.invariant
