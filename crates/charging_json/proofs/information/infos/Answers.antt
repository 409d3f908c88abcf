use Rattle.charging_json.proofs.Walk.{pushes}
use Rattle.charging_json.specs.Information.{info_of}
use Rattle.charging_json.proofs.information.infos.Goals as goal

pub loop-item-preserved : goal.loop-item-preserved
loop-item-preserved c = pushes info_of c.deref-item-items.result.now c.loop-item.item-index c.item-item.result c.loop-item.found.items c.push.new.self.items c.in_ok-info.field-0 c.in-Some-2.info c.loop-item-test.true c.item-item.is c.in_ok-info.ensures c.in-Some-2.is c.in_ok-push-in-Some-2.ensures.items c.loop-item.invariant
