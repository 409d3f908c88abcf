use Rattle.json_objects.specs.Fields.{name}
use Rattle.json_objects.proofs.Walk.{pushes}
use Rattle.json_objects.proofs.lists.names.Goals as goal

pub loop-item-preserved : goal.loop-item-preserved
loop-item-preserved c = pushes name c.deref-item-items.result.now c.loop-item.item-index c.item-item.result c.loop-item.found.items c.push.new.self.items c.in_ok-name.field-0 c.in-Some-2.name c.loop-item-test.true c.item-item.is c.in_ok-name.ensures c.in-Some-2.is c.in_ok-push-in-Some-2.ensures.items c.loop-item.invariant
