use Rattle.std.proofs.Common.{◌≡◌, drop}
use Rattle.charging_json.proofs.RuleWalk.{rules_from, then_more}
use Rattle.charging_json.proofs.rules.rules.Given as goal

abbrev pub invariant-loop-item : goal.invariant-loop-item
invariant-loop-item l = rules_from l.item-items ≡ then_more l.found.items (rules_from (drop l.item-index l.item-items))
