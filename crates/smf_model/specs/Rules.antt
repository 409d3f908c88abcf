-- Trigger rules: a rule sets the category of its type, and each limit that it gives; what it does not give stays (TS 32.291, 6.1.6.2.1.7).
use Rattle.std.specs.Prelude.{ℕ, ◌+◌, ◌*◌, ◌==◌, nat_lt, Bool, List, [], ◌∷◌, ◌++◌, filter, fold, Option, None, Some, option_map, option_and_then, unwrap_or, min, max, if◌then◌else◌}
use Rattle.std.specs.List.{find, list_any}
use Rattle.units.specs.declared.trigger.TriggerType.{TriggerType}
use Rattle.units.specs.declared.trigger.TriggerType.TheVariants.{VolumeLimit, TimeLimit, MaxNumberOfChangesInChargingConditions}
use Rattle.units.specs.declared.trigger.TriggerRule.{TriggerRule}
use Rattle.quotas.specs.declared.state.Limits.{Limits}
use Rattle.smf_model.specs.declared.setup.SmfSetup.{SmfSetup}
use Rattle.smf_model.specs.declared.session.Rule.{Rule}
use Rattle.smf_model.specs.declared.session.Session.{Session}
use Rattle.smf_model.specs.Categories.{order_of, same_type, is_immediate_by_default}

-- where a rule stands: those of the session, which have no group, come first, then those of each group, in the order of their types
-- (this product's own)
abbrev pub rank : Option ℕ → TriggerType → ℕ
rank None trigger = order_of trigger
rank (Some group) trigger = 32 * (group + 1) + order_of trigger

-- the place of a rule
abbrev pub rank_of : Rule → ℕ
rank_of r = rank r.group r.rule.trigger

-- the rule alone
abbrev pub in_rule : Option Rule → Option TriggerRule
in_rule None = None
in_rule (Some r) = Some r.rule

-- the rule at a place
abbrev pub rule_in : ℕ → List Rule → Option TriggerRule
rule_in place rules = in_rule (find (λ r. rank_of r == place) rules)

-- the rule of a type, for a rating group, or for the session where the group is None
abbrev pub rule_at : Option ℕ → TriggerType → List Rule → Option TriggerRule
rule_at group trigger rules = rule_in (rank group trigger) rules

-- the later one, where there is one
abbrev pub or_earlier : {A : Type 0} → Option A → Option A → Option A
or_earlier None earlier = earlier
or_earlier (Some later) earlier = Some later

-- a rule after an earlier one of its type
abbrev pub after_earlier : TriggerRule → Option TriggerRule → TriggerRule
after_earlier r None = r
after_earlier r (Some e) = record {
  trigger = r.trigger;
  immediate = r.immediate;
  volume = or_earlier r.volume e.volume;
  seconds = or_earlier r.seconds e.seconds;
  changes = or_earlier r.changes e.changes;
}

-- the rules with this one at a place
abbrev pub placed : ℕ → Rule → List Rule → List Rule
placed place r rules = filter (λ x. nat_lt (rank_of x) place) rules ++ r ∷ filter (λ x. nat_lt place (rank_of x)) rules

-- the rules with one more, at its place
abbrev pub with_rule : Option ℕ → List Rule → TriggerRule → List Rule
with_rule group rules r = placed (rank group r.trigger) (record { group = group; rule = after_earlier r (rule_at group r.trigger rules) }) rules

-- those of one list that count, with one more of that list: of several of one type the first
abbrev pub with_first : List TriggerRule → TriggerRule → List TriggerRule
with_first found r = if list_any (λ x. same_type x.trigger r.trigger) found then found else found ++ r ∷ []

-- those of a list that count
abbrev pub firsts : List TriggerRule → List TriggerRule
firsts list = fold with_first [] list

-- the rules with those of a list
abbrev pub with_rules : Option ℕ → List TriggerRule → List Rule → List Rule
with_rules group list rules = fold (with_rule group) rules (firsts list)

-- the category of a type, where a rule sets it
abbrev pub category_in : Option ℕ → TriggerType → List Rule → Option Bool
category_in group trigger rules = option_map (λ r. r.immediate) (rule_at group trigger rules)

-- the volume limit, where a rule gives one
abbrev pub volume_in : Option ℕ → List Rule → Option ℕ
volume_in group rules = option_and_then (λ r. r.volume) (rule_at group VolumeLimit rules)

-- the time limit
abbrev pub seconds_in : Option ℕ → List Rule → Option ℕ
seconds_in group rules = option_and_then (λ r. r.seconds) (rule_at group TimeLimit rules)

-- the number of changes, which is the session's
abbrev pub changes_in : List Rule → Option ℕ
changes_in rules = option_and_then (λ r. r.changes) (rule_at None MaxNumberOfChangesInChargingConditions rules)

-- whether a type is of immediate category for the session, and for a rating group: the group's rule wins over the session's, which wins over the table
abbrev pub is_immediate : Session → TriggerType → Bool
is_immediate s trigger = unwrap_or (category_in None trigger s.rules) (is_immediate_by_default trigger)

-- for a rating group
abbrev pub is_immediate_for : Session → ℕ → TriggerType → Bool
is_immediate_for s group trigger = unwrap_or (category_in (Some group) trigger s.rules) (is_immediate s trigger)

-- the limits of a rating group's containers: of its rules, else of the session's, else of the setup
abbrev pub limits_in : SmfSetup → List Rule → ℕ → Limits
limits_in setup rules group = record {
  volume = unwrap_or (volume_in (Some group) rules) (unwrap_or (volume_in None rules) setup.volume_limit);
  seconds = unwrap_or (seconds_in (Some group) rules) (unwrap_or (seconds_in None rules) setup.time_limit);
}

-- by the rules of a session
abbrev pub limits_of : SmfSetup → Session → ℕ → Limits
limits_of setup s group = limits_in setup s.rules group

-- a number outside of 1 to the greatest number of waiting containers is brought to the nearer of them
abbrev pub within : ℕ → ℕ → ℕ
within most changes = min (max most 1) (max changes 1)

-- how many waiting containers make an Update
abbrev pub changes_of : SmfSetup → Session → ℕ
changes_of setup s = unwrap_or (option_map (within setup.held_max) (changes_in s.rules)) setup.changes_max
