-- Multiple unit information (TS 32.291, 6.1.6.2.1.8 to 6.1.6.2.1.10).
use Rattle.std.specs.Prelude.{ℕ, List, Option, Some, None, if◌then◌else◌, option_map, option_and_then, codes}
use Rattle.serde_json.specs.Data.{Data}
use Rattle.serde_json.specs.Find.{as_str}
use Rattle.units.specs.Words.{code_named, action_named}
use Rattle.units.specs.declared.answer.Code.{Code}
use Rattle.units.specs.declared.answer.Action.{Action}
use Rattle.units.specs.declared.answer.Amount.{Amount}
use Rattle.units.specs.declared.answer.Amount.TheVariants.{Volume, Seconds}
use Rattle.units.specs.declared.answer.UnitInfo.{UnitInfo}
use Rattle.units.specs.declared.trigger.TriggerRule.{TriggerRule}
use Rattle.charging_json.specs.declared.information.Granted.{Granted}
use Rattle.charging_json.specs.declared.information.Bounds.{Bounds}
use Rattle.json_objects.specs.Fields.{given, is_object, number_32, volume, time, optional, needed, or_empty}
use Rattle.charging_json.specs.Rules.{rules_of}

-- a result code, which is any text
abbrev pub code : Data → Option Code
code value = option_map code_named (as_str value)

-- the action of a final unit indication
abbrev pub action : Data → Option Action
action value = option_and_then action_named (as_str value)

-- the final unit indication, an object whose action may be absent
abbrev pub last_units_of : Option Data → Option (Option Action)
last_units_of None = Some None
last_units_of (Some value) = if is_object value then optional action (given (codes "finalUnitAction") value) else None

-- the amount of a granted unit; the volume wins where both stand
abbrev pub amount : Option ℕ → Option ℕ → Option Amount
amount (Some octets) seconds = Some (Volume octets)
amount None (Some seconds) = Some (Seconds seconds)
amount None None = None

-- a granted unit with these members
abbrev pub with_granted : Option ℕ → Option ℕ → Option ℕ → Granted
with_granted switch seconds octets = record { grant = amount octets seconds; switch = switch }

-- the granted unit, an object that may be absent
abbrev pub granted_of : Option Data → Option Granted
granted_of None = Some (with_granted None None None)
granted_of (Some value) =
    if is_object value
    then option_and_then (λ switch. option_and_then (λ seconds. option_map (λ octets. with_granted switch seconds octets)
    (optional volume (given (codes "totalVolume") value)))
    (optional number_32 (given (codes "time") value)))
    (optional time (given (codes "tariffTimeChange") value))
    else None

-- bounds with these members
abbrev pub with_bounds : Option ℕ → Option ℕ → Option ℕ → Option ℕ → Bounds
with_bounds validity holding octets seconds = record { validity = validity; holding = holding; volume_threshold = octets; time_threshold = seconds }

-- the validity time, the quota holding time and the thresholds
abbrev pub bounds_of : Data → Option Bounds
bounds_of value =
    option_and_then (λ validity. option_and_then (λ holding. option_and_then (λ octets. option_map (λ seconds. with_bounds validity holding octets seconds)
    (optional number_32 (given (codes "timeQuotaThreshold") value)))
    (optional volume (given (codes "volumeQuotaThreshold") value)))
    (optional number_32 (given (codes "quotaHoldingTime") value)))
    (optional number_32 (given (codes "validityTime") value))

-- an entry with these members
abbrev pub with_info : ℕ → Code → Granted → Bounds → Option Action → List TriggerRule → UnitInfo
with_info group code granted bounds last_units triggers = record {
  group = group;
  code = code;
  grant = granted.grant;
  switch = granted.switch;
  validity = bounds.validity;
  holding = bounds.holding;
  volume_threshold = bounds.volume_threshold;
  time_threshold = bounds.time_threshold;
  last_units = last_units;
  triggers = triggers;
}

-- an entry for one rating group
abbrev pub info_of : Data → Option UnitInfo
info_of value =
    option_and_then (λ group. option_and_then (λ code. option_and_then (λ granted. option_and_then (λ bounds. option_and_then (λ last_units. option_map (λ triggers.
    with_info group code granted bounds last_units (or_empty triggers))
    (optional rules_of (given (codes "triggers") value)))
    (last_units_of (given (codes "finalUnitIndication") value)))
    (bounds_of value))
    (granted_of (given (codes "grantedUnit") value)))
    (needed code (given (codes "resultCode") value)))
    (needed number_32 (given (codes "ratingGroup") value))
