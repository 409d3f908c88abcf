-- A spending limit status, read (TS 29.594, SpendingLimitStatus, in this product's profile).
use Rattle.std.specs.Prelude.{ℕ, List, [], Option, Some, None, Result, Ok, Err, if◌then◌else◌, option_map, option_and_then, bytes_eq, codes}
use Rattle.serde_json.specs.Data.{Data, Members, no_members, member}
use Rattle.serde_json.specs.Find.{as_object}
use Rattle.units.specs.declared.spending.CounterStatus.{CounterStatus}
use Rattle.units.specs.declared.spending.SpendStatus.{SpendStatus}
use Rattle.units.specs.declared.refusal.JsonRefusal.{JsonRefusal}
use Rattle.units.specs.declared.refusal.JsonRefusal.TheVariants.{NotJson}
use Rattle.json_objects.specs.Fields.{given, name, needed, joined, required, after}
use Rattle.json_objects.specs.Body.{object_in}

-- the status of a counter, where it stands under that counter's name
abbrev pub under : List ℕ → List ℕ → List ℕ → Option CounterStatus
under key status counter = if bytes_eq counter key then Some (record { counter = counter; status = status }) else None

-- the status that a member of the statuses is
abbrev pub info_of : List ℕ → Data → Option CounterStatus
info_of key value =
    option_and_then (λ status. option_and_then (under key status) (needed name (given (codes "policyCounterId") value)))
    (needed name (given (codes "currentStatus") value))

-- the statuses that members are, where all are right
abbrev pub infos_in : Members → Option (List CounterStatus)
infos_in no_members = Some []
infos_in (member key value rest) = joined (info_of key value) (infos_in rest)

-- the statuses of an object
abbrev pub infos_of : Data → Option (List CounterStatus)
infos_of value = option_and_then infos_in (as_object value)

-- what an object is: a status, or the first field in this order that is absent or wrong
abbrev pub status_of : Data → Result SpendStatus JsonRefusal
status_of value =
    after (required (codes "supi") (option_map name (given (codes "supi") value))) (λ supi.
    after (required (codes "statusInfos") (option_map infos_of (given (codes "statusInfos") value))) (λ infos.
    Ok (record { supi = supi; infos = infos })))

-- what the object of a body is, where the body is one
abbrev pub status_by : Option Data → Result SpendStatus JsonRefusal
status_by None = Err NotJson
status_by (Some value) = status_of value

-- the status that a body is, or why it is none
abbrev pub status_in : List ℕ → Result SpendStatus JsonRefusal
status_in body = status_by (object_in body)
