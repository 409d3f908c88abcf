use Rattle.std.proofs.Common.{◌≡◌, drop}
use Rattle.charging_json.proofs.Walk.{then_more, each_of}
use Rattle.charging_json.specs.Usage.{used_of}
use Rattle.charging_json.proofs.container.containers.Given as goal

abbrev pub invariant-loop-item : goal.invariant-loop-item
invariant-loop-item l = each_of (used_of l.group l.stamp) l.items ≡ then_more l.found.items (each_of (used_of l.group l.stamp) (drop l.item-index l.items))
