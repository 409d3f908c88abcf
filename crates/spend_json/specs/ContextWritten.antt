-- A spending limit context as it is written (TS 29.594, SpendingLimitContext, in this product's profile).
use Rattle.std.specs.Prelude.{ℕ, List, [], ◌∷◌, Option, Some, map, codes}
use Rattle.serde_json.specs.Data.{Data, string}
use Rattle.units.specs.declared.spending.SpendContext.{SpendContext}
use Rattle.json_objects.specs.Objects.{object_of, listed}

-- its fields; no counter named leaves their list out
abbrev pub context_fields : SpendContext → List (List ℕ × Option Data)
context_fields context =
    (codes "notifUri", Some (string context.notify)) ∷
    (codes "policyCounterIds", listed (map string context.counters)) ∷
    (codes "supi", Some (string context.supi)) ∷ []

-- as an object
abbrev pub context_data : SpendContext → Data
context_data context = object_of (context_fields context)
