-- A charging data request as it is written (TS 32.291, 6.1.6.2.1.1, in this product's profile).
use Rattle.std.specs.Prelude.{ℕ, ◌+◌, ◌-◌, ◌^◌, min, Bool, true, false, List, [], ◌∷◌, ◌++◌, Option, Some, None, option_map, map, length, sum_by, codes}
use Rattle.serde_json.specs.Data.{Data, boolean, string}
use Rattle.units.specs.Words.{name_of_category}
use Rattle.units.specs.declared.request.Ask.{Ask}
use Rattle.units.specs.declared.request.Used.{Used}
use Rattle.units.specs.declared.request.UnitUsage.{UnitUsage}
use Rattle.units.specs.declared.request.Request.{Request}
use Rattle.json_objects.specs.Objects.{object_of, listed, number_data, time_data}

-- a trigger of a request, of which only the type is kept
abbrev pub trigger_fields : List ℕ → List (List ℕ × Option Data)
trigger_fields kind = (codes "triggerCategory", Some (string (name_of_category true))) ∷ (codes "triggerType", Some (string kind)) ∷ []

-- as an object
abbrev pub trigger_data : List ℕ → Data
trigger_data kind = object_of (trigger_fields kind)

-- the total of both directions; it ends at the greatest number of 64 bits
abbrev pub total_of : ℕ → ℕ → ℕ
total_of up down = min (up + down) (2 ^ 64 - 1)

-- the times of first and last usage
abbrev pub span_fields : Used → List (List ℕ × Option Data)
span_fields used = (codes "timeofFirstUsage", Some (time_data used.first)) ∷ (codes "timeofLastUsage", Some (time_data used.last)) ∷ []

-- as an object
abbrev pub span_data : Used → Data
span_data used = object_of (span_fields used)

-- a used unit container
abbrev pub used_fields : Used → List (List ℕ × Option Data)
used_fields used =
    (codes "downlinkVolume", Some (number_data used.down)) ∷
    (codes "localSequenceNumber", Some (number_data used.lsn)) ∷
    (codes "pDUContainerInformation", Some (span_data used)) ∷
    (codes "time", Some (number_data used.seconds)) ∷
    (codes "totalVolume", Some (number_data (total_of used.up used.down))) ∷
    (codes "triggerTimestamp", Some (time_data used.moment)) ∷
    (codes "triggers", listed (map trigger_data used.triggers)) ∷
    (codes "uplinkVolume", Some (number_data used.up)) ∷ []

-- as an object
abbrev pub used_data : Used → Data
used_data used = object_of (used_fields used)

-- a requested unit
abbrev pub ask_fields : Ask → List (List ℕ × Option Data)
ask_fields ask = (codes "time", option_map number_data ask.seconds) ∷ (codes "totalVolume", option_map number_data ask.volume) ∷ []

-- as an object
abbrev pub ask_data : Ask → Data
ask_data ask = object_of (ask_fields ask)

-- a multiple unit usage
abbrev pub usage_fields : UnitUsage → List (List ℕ × Option Data)
usage_fields usage =
    (codes "ratingGroup", Some (number_data usage.group)) ∷
    (codes "requestedUnit", option_map ask_data usage.ask) ∷
    (codes "usedUnitContainer", listed (map used_data usage.used)) ∷ []

-- as an object
abbrev pub usage_data : UnitUsage → Data
usage_data usage = object_of (usage_fields usage)

-- the consumer, which is an SMF
abbrev pub consumer_fields : List ℕ → List (List ℕ × Option Data)
consumer_fields name = (codes "nFName", Some (string name)) ∷ (codes "nodeFunctionality", Some (string (codes "SMF"))) ∷ []

-- as an object
abbrev pub consumer_data : List ℕ → Data
consumer_data name = object_of (consumer_fields name)

-- the retransmission indicator is written only where it is set
abbrev pub again_data : Bool → Option Data
again_data true = Some (boolean true)
again_data false = None

-- what a request says of its session and of itself
abbrev pub invocation_fields : Request → List (List ℕ × Option Data)
invocation_fields request =
    (codes "chargingId", option_map number_data request.charging_id) ∷
    (codes "invocationSequenceNumber", Some (number_data request.number)) ∷
    (codes "invocationTimeStamp", Some (time_data request.stamp)) ∷ []

-- a charging data request; its operation stands in the path
abbrev pub request_fields : Request → List (List ℕ × Option Data)
request_fields request = invocation_fields request ++ (
    (codes "multipleUnitUsage", listed (map usage_data request.usage)) ∷
    (codes "nfConsumerIdentification", Some (consumer_data request.consumer)) ∷
    (codes "notifyUri", option_map string request.notify) ∷
    (codes "retransmissionIndicator", again_data request.again) ∷
    (codes "subscriberIdentifier", option_map string request.subscriber) ∷
    (codes "triggers", listed (map trigger_data request.triggers)) ∷ [])

-- as an object
abbrev pub request_data : Request → Data
request_data request = object_of (request_fields request)

-- how many containers a request has
abbrev pub container_count : Request → ℕ
container_count request = sum_by (λ u. length u.used) request.usage
