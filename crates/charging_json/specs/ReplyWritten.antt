-- The reply to a charging data request as it is written (TS 32.291, 6.1.6.2.1.6 and 6.1.7, in this product's profile).
use Rattle.std.specs.Prelude.{ℕ, Bool, List, [], ◌∷◌, Option, Some, None, option_map, map, codes}
use Rattle.serde_json.specs.Data.{Data, string}
use Rattle.serde_json.specs.Written.{compact_text}
use Rattle.units.specs.Words.{name_of_type, name_of_category, name_of_code, name_of_action, name_of_handling, name_of_failover}
use Rattle.units.specs.declared.answer.Answer.{Answer}
use Rattle.units.specs.declared.answer.Action.{Action}
use Rattle.units.specs.declared.answer.Handling.{Handling}
use Rattle.units.specs.declared.answer.Amount.{Amount}
use Rattle.units.specs.declared.answer.Amount.TheVariants.{Volume, Seconds}
use Rattle.units.specs.declared.answer.UnitInfo.{UnitInfo}
use Rattle.units.specs.declared.trigger.TriggerRule.{TriggerRule}
use Rattle.units.specs.declared.reply.Problem.{Problem}
use Rattle.units.specs.declared.reply.Reply.{Reply}
use Rattle.units.specs.declared.reply.Reply.TheVariants.{Created, Updated, Released, Refused}
use Rattle.charging_json.specs.Location.{location_text}
use Rattle.json_objects.specs.Objects.{object_of, listed, number_data, time_data}

-- ---- objects

-- a trigger rule
abbrev pub rule_fields : TriggerRule → List (List ℕ × Option Data)
rule_fields rule =
    (codes "maxNumberOfccc", option_map number_data rule.changes) ∷
    (codes "timeLimit", option_map number_data rule.seconds) ∷
    (codes "triggerCategory", Some (string (name_of_category rule.immediate))) ∷
    (codes "triggerType", Some (string (name_of_type rule.trigger))) ∷
    (codes "volumeLimit64", option_map number_data rule.volume) ∷ []

-- as an object
abbrev pub rule_data : TriggerRule → Data
rule_data rule = object_of (rule_fields rule)

-- the octets of a granted unit, where it is a volume
abbrev pub octets_of : Option Amount → Option ℕ
octets_of None = None
octets_of (Some (Volume octets)) = Some octets
octets_of (Some (Seconds seconds)) = None

-- its seconds, where it is a time
abbrev pub seconds_of : Option Amount → Option ℕ
seconds_of None = None
seconds_of (Some (Volume octets)) = None
seconds_of (Some (Seconds seconds)) = Some seconds

-- the members of a granted unit
abbrev pub granted_fields : Option Amount → Option ℕ → List (List ℕ × Option Data)
granted_fields grant switch =
    (codes "tariffTimeChange", option_map time_data switch) ∷
    (codes "time", option_map number_data (seconds_of grant)) ∷
    (codes "totalVolume", option_map number_data (octets_of grant)) ∷ []

-- the granted unit, where there is an amount or a tariff time change
abbrev pub granted_data : Option Amount → Option ℕ → Option Data
granted_data None None = None
granted_data None (Some switch) = Some (object_of (granted_fields None (Some switch)))
granted_data (Some grant) switch = Some (object_of (granted_fields (Some grant) switch))

-- the final unit indication
abbrev pub last_units_fields : Action → List (List ℕ × Option Data)
last_units_fields action = (codes "finalUnitAction", Some (string (name_of_action action))) ∷ []

-- as an object
abbrev pub last_units_data : Action → Data
last_units_data action = object_of (last_units_fields action)

-- what bounds the use of a grant, and the triggers of its rating group
abbrev pub bound_fields : Option Data → UnitInfo → List (List ℕ × Option Data)
bound_fields triggers info =
    (codes "timeQuotaThreshold", option_map number_data info.time_threshold) ∷
    (codes "triggers", triggers) ∷
    (codes "validityTime", option_map number_data info.validity) ∷
    (codes "volumeQuotaThreshold", option_map number_data info.volume_threshold) ∷ []

-- an entry for one rating group
abbrev pub info_fields : UnitInfo → List (List ℕ × Option Data)
info_fields info =
    (codes "finalUnitIndication", option_map last_units_data info.last_units) ∷
    (codes "grantedUnit", granted_data info.grant info.switch) ∷
    (codes "quotaHoldingTime", option_map number_data info.holding) ∷
    (codes "ratingGroup", Some (number_data info.group)) ∷
    (codes "resultCode", Some (string (name_of_code info.code))) ∷ bound_fields (listed (map rule_data info.triggers)) info

-- as an object
abbrev pub info_data : UnitInfo → Data
info_data info = object_of (info_fields info)

-- the invocation result, where there is a failure handling
abbrev pub result_fields : Handling → List (List ℕ × Option Data)
result_fields handling = (codes "failureHandling", Some (string (name_of_handling handling))) ∷ []

-- as an object
abbrev pub result_data : Handling → Data
result_data handling = object_of (result_fields handling)

-- whether session failover is supported
abbrev pub failover_data : Bool → Data
failover_data supported = string (name_of_failover supported)

-- an answer
abbrev pub answer_fields : Answer → List (List ℕ × Option Data)
answer_fields answer =
    (codes "invocationResult", option_map result_data answer.handling) ∷
    (codes "invocationSequenceNumber", Some (number_data answer.number)) ∷
    (codes "invocationTimeStamp", Some (time_data answer.stamp)) ∷
    (codes "multipleUnitInformation", listed (map info_data answer.units)) ∷
    (codes "sessionFailover", option_map failover_data answer.failover) ∷
    (codes "triggers", listed (map rule_data answer.triggers)) ∷ []

-- as an object
abbrev pub answer_data : Answer → Data
answer_data answer = object_of (answer_fields answer)

-- problem details
abbrev pub problem_fields : Problem → List (List ℕ × Option Data)
problem_fields problem =
    (codes "cause", Some (string problem.cause)) ∷
    (codes "detail", option_map string problem.detail) ∷
    (codes "status", Some (number_data problem.status)) ∷ []

-- as an object
abbrev pub problem_data : Problem → Data
problem_data problem = object_of (problem_fields problem)

-- ---- replies

-- the body of a reply; a session that was released has none
abbrev pub reply_text : Reply → List ℕ
reply_text (Created reference answer) = compact_text (answer_data answer)
reply_text (Updated answer) = compact_text (answer_data answer)
reply_text Released = []
reply_text (Refused problem) = compact_text (problem_data problem)

-- the status of its response
abbrev pub status_of : Reply → ℕ
status_of (Created reference answer) = 201
status_of (Updated answer) = 200
status_of Released = 204
status_of (Refused problem) = problem.status

-- the Location of its response
abbrev pub location_of : Reply → Option (List ℕ)
location_of (Created reference answer) = Some (location_text reference)
location_of (Updated answer) = None
location_of Released = None
location_of (Refused problem) = None
