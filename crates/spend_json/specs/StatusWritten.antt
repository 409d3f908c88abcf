-- A spending limit status as it is written (TS 29.594, SpendingLimitStatus, in this product's profile).
use Rattle.std.specs.Prelude.{ℕ, List, [], ◌∷◌, Option, Some, map, codes}
use Rattle.serde_json.specs.Data.{Data, string}
use Rattle.units.specs.declared.spending.CounterStatus.{CounterStatus}
use Rattle.units.specs.declared.spending.SpendStatus.{SpendStatus}
use Rattle.json_objects.specs.Objects.{object_of}

-- the status of a counter
abbrev pub info_fields : CounterStatus → List (List ℕ × Option Data)
info_fields info = (codes "currentStatus", Some (string info.status)) ∷ (codes "policyCounterId", Some (string info.counter)) ∷ []

-- as an object, under the name of the counter
abbrev pub info_field : CounterStatus → List ℕ × Option Data
info_field info = (info.counter, Some (object_of (info_fields info)))

-- the statuses of all
abbrev pub infos_fields : List CounterStatus → List (List ℕ × Option Data)
infos_fields infos = map info_field infos

-- as an object, which may be empty
abbrev pub infos_data : List CounterStatus → Data
infos_data infos = object_of (infos_fields infos)

-- the fields of a status
abbrev pub status_fields : SpendStatus → List (List ℕ × Option Data)
status_fields status = (codes "statusInfos", Some (infos_data status.infos)) ∷ (codes "supi", Some (string status.supi)) ∷ []

-- as an object
abbrev pub status_data : SpendStatus → Data
status_data status = object_of (status_fields status)
