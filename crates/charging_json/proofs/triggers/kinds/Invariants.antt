use Rattle.std.proofs.Common.{◌≡◌, drop}
use Rattle.charging_json.proofs.Walk.{then_more, each_of}
use Rattle.charging_json.specs.Triggers.{sound_kind}
use Rattle.charging_json.proofs.triggers.kinds.Given as goal

abbrev pub invariant-loop-item : goal.invariant-loop-item
invariant-loop-item l = each_of sound_kind l.item-items ≡ then_more l.found.items (each_of sound_kind (drop l.item-index l.item-items))
