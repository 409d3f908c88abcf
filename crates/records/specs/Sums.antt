-- What a record adds up to, for its limits.
use Rattle.std.specs.Prelude.{ℕ, ◌+◌, ◌-◌, ◌^◌, Bool, true, false, List, sum_by, min, Option, Some, if◌then◌else◌}
use Rattle.std.specs.List.{list_any}
use Rattle.units.specs.declared.trigger.TriggerType.{TriggerType}
use Rattle.units.specs.declared.trigger.TriggerType.TheVariants as types
use Rattle.units.specs.declared.request.Used.{Used}
use Rattle.units.specs.declared.request.UnitUsage.{UnitUsage}
use Rattle.units.specs.Words.{type_named}
use Rattle.records.specs.declared.sums.Sums.{Sums}

-- The sum of a number over all containers of some entries (this product's own).
abbrev pub total : (Used → ℕ) → List UnitUsage → ℕ
total f usage = sum_by (λ u. sum_by f u.used) usage

-- The triggers that are a change of charging conditions (TS 32.255, 5.2.1.3; the set is this product's profile).
abbrev pub is_change_type : Option TriggerType → Bool
is_change_type (Some types.TariffTimeChange) = true
is_change_type (Some types.QosChange) = true
is_change_type (Some types.RatChange) = true
is_change_type (Some types.PlmnChange) = true
is_change_type (Some types.UserLocationChange) = true
is_change_type (Some types.UeTimezoneChange) = true
is_change_type (Some types.SessionAmbrChange) = true
is_change_type (Some types.ServingNodeChange) = true
is_change_type other = false

-- A change container has such a trigger (this product's own).
abbrev pub is_change : Used → Bool
is_change c = list_any (λ t. is_change_type (type_named t)) c.triggers

-- The octets of a container, up and down (TS 32.291, 6.1.6.2.1.4).
abbrev pub octets : Used → ℕ
octets c = c.up + c.down

-- 1 for a change container, else 0 (this product's own).
abbrev pub changes : Used → ℕ
changes c = if is_change c then 1 else 0

-- 1 for each container (this product's own).
abbrev pub one_each : Used → ℕ
one_each c = 1

-- The octets, change containers and containers of a record, each up to the greatest number of its type (this product's own).
abbrev pub sums_of : List UnitUsage → Sums
sums_of usage = record { octets = min (total octets usage) (2 ^ 64 - 1); changes = min (total changes usage) (2 ^ 32 - 1); containers = min (total one_each usage) (2 ^ 32 - 1) }

-- The same after more containers (this product's own).
abbrev pub sums_with : Sums → List Used → Sums
sums_with s used = record { octets = min (s.octets + sum_by octets used) (2 ^ 64 - 1); changes = min (s.changes + sum_by changes used) (2 ^ 32 - 1); containers = min (s.containers + sum_by one_each used) (2 ^ 32 - 1) }
