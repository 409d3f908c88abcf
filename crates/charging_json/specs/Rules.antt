-- The triggers of a reply (TS 32.291, 6.1.6.2.1.7 and 6.1.6.3.6; the set of types is this product's profile).
use Rattle.std.specs.Prelude.{List, [], Option, Some, None, option_map, option_and_then}
use Rattle.serde_json.specs.Data.{Data, Items, no_items, item}
use Rattle.serde_json.specs.Find.{as_array}
use Rattle.units.specs.Words.{type_named}
use Rattle.units.specs.declared.trigger.TriggerRule.{TriggerRule}
use Rattle.units.specs.declared.trigger.TriggerType.{TriggerType}
use Rattle.charging_json.specs.declared.triggers.Limits.{Limits}
use Rattle.json_objects.specs.Fields.{joined}
use Rattle.charging_json.specs.Triggers.{limits_of, kind_of}

-- a rule of this type with these limits
abbrev pub with_rule : Limits → TriggerType → TriggerRule
with_rule limits kind = record { trigger = kind; immediate = limits.immediate; volume = limits.volume; seconds = limits.seconds; changes = limits.changes }

-- a trigger rule: None where it is wrong, Some None where its type is unknown, so that it is read past
abbrev pub rule_of : Data → Option (Option TriggerRule)
rule_of value = option_and_then (λ kind. option_map (λ limits. option_map (with_rule limits) (type_named kind)) (limits_of value)) (kind_of value)

-- a rule that is kept, and the rest
abbrev pub kept : Option (Option TriggerRule) → Option (List TriggerRule) → Option (List TriggerRule)
kept None rest = None
kept (Some None) rest = rest
kept (Some (Some rule)) rest = joined (Some rule) rest

-- the rules of some items
abbrev pub rules_in : Items → Option (List TriggerRule)
rules_in no_items = Some []
rules_in (item value rest) = kept (rule_of value) (rules_in rest)

-- the rules of a list of triggers, those of unknown types read past
abbrev pub rules_of : Data → Option (List TriggerRule)
rules_of value = option_and_then rules_in (as_array value)
