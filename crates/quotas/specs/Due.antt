-- The trigger that is due: the table of triggers, by its lines in order (TS 32.255, 5.2.1; the order is this product's own).
use Rattle.std.specs.Prelude.{ℕ, ◌+◌, ◌==◌, ◌&&◌, not, nat_lt, nat_le, Bool, false, if◌then◌else◌, max, Option, Some, None, is_some, List, [], ◌∷◌}
use Rattle.units.specs.declared.report.Container.{Container}
use Rattle.units.specs.declared.trigger.TriggerType.{TriggerType}
use Rattle.units.specs.declared.trigger.TriggerType.TheVariants.{Final, QuotaExhausted, QuotaThreshold, ValidityTime, QuotaHoldingTime, TariffTimeChange, VolumeLimit, TimeLimit}
use Rattle.quotas.specs.declared.state.Limits.{Limits}
use Rattle.quotas.specs.declared.standing.Terms.{Terms}
use Rattle.quotas.specs.declared.standing.Standing.{Standing}
use Rattle.quotas.specs.declared.standing.Standing.TheVariants.{Granted}
use Rattle.quotas.specs.Quota.{Quota, is_asked, left}

-- units are granted, and their terms pass
abbrev pub on_terms : Standing → (Terms → Bool) → Bool
on_terms (Granted terms) test = test terms
on_terms other test = false

-- units are granted, no quota is asked for, and the terms pass
abbrev pub in_terms : Quota → (Terms → Bool) → Bool
in_terms q test = not (is_asked q) && on_terms q.standing test

-- a container is open, and passes
abbrev pub in_open : Option Container → (Container → Bool) → Bool
in_open None test = false
in_open (Some container) test = test container

-- the lines of the table: when a trigger is due, and which; a time limit, validity, holding time or threshold of 0 is none
abbrev pub due_lines : Quota → Option Container → Bool → ℕ → Limits → List (Bool × TriggerType)
due_lines q open_container unsafe_hour now limits =
    (in_terms q (λ t. is_some t.last_units && (left t q == 0)), Final)
    ∷ (in_terms q (λ t. not (is_some t.last_units) && (left t q == 0)), QuotaExhausted)
    ∷ (in_terms q (λ t. not (is_some t.last_units) && (nat_lt 0 t.threshold && nat_le (left t q) t.threshold)), QuotaThreshold)
    ∷ (in_terms q (λ t. nat_lt 0 t.validity && nat_le (t.stamp + t.validity) now), ValidityTime)
    ∷ (in_terms q (λ t. nat_lt 0 t.holding && nat_le (max t.stamp q.last_use + t.holding) now), QuotaHoldingTime)
    ∷ (in_open open_container (λ c. unsafe_hour), TariffTimeChange)
    ∷ (in_open open_container (λ c. nat_lt 0 limits.volume && nat_le limits.volume (c.up + c.down)), VolumeLimit)
    ∷ (in_open open_container (λ c. nat_lt 0 limits.seconds && nat_le limits.seconds c.seconds), TimeLimit)
    ∷ []

-- the first line whose condition holds
abbrev pub first_due : List (Bool × TriggerType) → Option TriggerType
first_due [] = None
first_due (line ∷ lines) = if line.0 then Some line.1 else first_due lines

-- the trigger that is due
abbrev pub due_of : Quota → Option Container → Bool → ℕ → Limits → Option TriggerType
due_of q open_container unsafe_hour now limits = first_due (due_lines q open_container unsafe_hour now limits)

-- the lines of granted units alone, with so much left
abbrev pub first_by_terms : Terms → ℕ → ℕ → ℕ → Option TriggerType
first_by_terms t rest last_use now = first_due (
    (is_some t.last_units && (rest == 0), Final)
    ∷ (not (is_some t.last_units) && (rest == 0), QuotaExhausted)
    ∷ (not (is_some t.last_units) && (nat_lt 0 t.threshold && nat_le rest t.threshold), QuotaThreshold)
    ∷ (nat_lt 0 t.validity && nat_le (t.stamp + t.validity) now, ValidityTime)
    ∷ (nat_lt 0 t.holding && nat_le (max t.stamp last_use + t.holding) now, QuotaHoldingTime)
    ∷ [])

-- the lines of the open container alone
abbrev pub first_by_container : Option Container → Bool → Limits → Option TriggerType
first_by_container None unsafe_hour limits = None
first_by_container (Some c) unsafe_hour limits = first_due (
    (unsafe_hour, TariffTimeChange)
    ∷ (nat_lt 0 limits.volume && nat_le limits.volume (c.up + c.down), VolumeLimit)
    ∷ (nat_lt 0 limits.seconds && nat_le limits.seconds c.seconds, TimeLimit)
    ∷ [])
