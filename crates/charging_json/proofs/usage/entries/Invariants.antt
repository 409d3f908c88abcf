use Rattle.std.proofs.Common.{◌≡◌, drop}
use Rattle.charging_json.proofs.Walk.{then_more, each_of}
use Rattle.charging_json.specs.Usage.{entry_of}
use Rattle.charging_json.proofs.usage.entries.Given as goal

abbrev pub invariant-loop-item : goal.invariant-loop-item
invariant-loop-item l = each_of (entry_of l.stamp) l.items ≡ then_more l.found.items (each_of (entry_of l.stamp) (drop l.item-index l.items))
