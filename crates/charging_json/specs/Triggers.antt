-- Triggers (TS 32.291, 6.1.6.2.1.7 and 6.1.6.3.6).
use Rattle.std.specs.Prelude.{ℕ, Bool, true, List, Option, Some, None, option_map, option_and_then, unwrap_or, codes}
use Rattle.serde_json.specs.Data.{Data}
use Rattle.serde_json.specs.Find.{as_str}
use Rattle.units.specs.Names.{is_kind}
use Rattle.units.specs.Words.{is_immediate}
use Rattle.charging_json.specs.declared.triggers.Limits.{Limits}
use Rattle.json_objects.specs.Fields.{given, number_32, volume, text_that, optional, needed}

-- the category that a value names
abbrev pub category : Data → Option Bool
category value = option_and_then is_immediate (as_str value)

-- the first that is present
abbrev pub first_given : Option ℕ → Option ℕ → Option ℕ
first_given None later = later
first_given (Some n) later = Some n

-- what a trigger says beside its type; without a category it is immediate
abbrev pub with_limits : Option Bool → Option ℕ → Option ℕ → Option ℕ → Option ℕ → Limits
with_limits immediate seconds changes wide narrow = record { immediate = unwrap_or immediate true; volume = first_given wide narrow; seconds = seconds; changes = changes }

-- its category and limits, where all are right; `volumeLimit64` wins over `volumeLimit`
abbrev pub limits_of : Data → Option Limits
limits_of value =
    option_and_then (λ immediate. option_and_then (λ seconds. option_and_then (λ changes. option_and_then (λ wide. option_map (λ narrow.
    with_limits immediate seconds changes wide narrow)
    (optional volume (given (codes "volumeLimit") value)))
    (optional volume (given (codes "volumeLimit64") value)))
    (optional number_32 (given (codes "maxNumberOfccc") value)))
    (optional number_32 (given (codes "timeLimit") value)))
    (optional category (given (codes "triggerCategory") value))

-- the type that a trigger names
abbrev pub kind_of : Data → Option (List ℕ)
kind_of value = needed (text_that is_kind) (given (codes "triggerType") value)

-- the type of a trigger whose other members are right
abbrev pub sound_kind : Data → Option (List ℕ)
sound_kind value = option_and_then (λ kind. option_map (λ rest. kind) (limits_of value)) (kind_of value)
