-- A spending limit context, read (TS 29.594, SpendingLimitContext, in this product's profile).
use Rattle.std.specs.Prelude.{ℕ, nat_le, length, List, Option, Some, None, Result, Ok, Err, if◌then◌else◌, option_map, option_and_then, codes}
use Rattle.serde_json.specs.Data.{Data}
use Rattle.units.specs.declared.spending.SpendContext.{SpendContext}
use Rattle.units.specs.declared.refusal.JsonRefusal.{JsonRefusal}
use Rattle.units.specs.declared.refusal.JsonRefusal.TheVariants.{NotJson}
use Rattle.json_objects.specs.Fields.{given, name, text_that, list_of, or_empty, required, allowed, after}
use Rattle.json_objects.specs.Body.{object_in}
use Rattle.spend_json.specs.Address.{is_address}

-- at most 100 names
abbrev pub few : List (List ℕ) → Option (List (List ℕ))
few names = if nat_le (length names) 100 then Some names else None

-- the counters that are named: a list of at most 100 names
abbrev pub counters_of : Data → Option (List (List ℕ))
counters_of value = option_and_then few (list_of name value)

-- the address for notifications
abbrev pub address_of : Data → Option (List ℕ)
address_of value = text_that is_address value

-- a context of these fields; what is absent is empty
abbrev pub with_context : List ℕ → Option (List (List ℕ)) → List ℕ → SpendContext
with_context supi counters notify = record { supi = supi; counters = or_empty counters; notify = notify }

-- what an object is: a context, or the first field in this order that is absent or wrong
abbrev pub context_of : Data → Result SpendContext JsonRefusal
context_of value =
    after (required (codes "supi") (option_map name (given (codes "supi") value))) (λ supi.
    after (allowed (codes "policyCounterIds") (option_map counters_of (given (codes "policyCounterIds") value))) (λ counters.
    after (required (codes "notifUri") (option_map address_of (given (codes "notifUri") value))) (λ notify.
    Ok (with_context supi counters notify))))

-- what the object of a body is, where the body is one
abbrev pub context_by : Option Data → Result SpendContext JsonRefusal
context_by None = Err NotJson
context_by (Some value) = context_of value

-- the context that a body is, or why it is none
abbrev pub context_in : List ℕ → Result SpendContext JsonRefusal
context_in body = context_by (object_in body)
