use Rattle.std.proofs.Common.{◌≡◌, drop}
use Rattle.charging_json.proofs.Walk.{then_more, each_of}
use Rattle.charging_json.specs.Information.{info_of}
use Rattle.charging_json.proofs.information.infos.Given as goal

abbrev pub invariant-loop-item : goal.invariant-loop-item
invariant-loop-item l = each_of info_of l.item-items ≡ then_more l.found.items (each_of info_of (drop l.item-index l.item-items))
