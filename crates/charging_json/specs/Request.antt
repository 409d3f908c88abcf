-- A charging data request (TS 32.291, 6.1.6.2.1.1, in this product's profile).
use Rattle.std.specs.Prelude.{ℕ, Bool, false, List, Option, Some, None, Result, Ok, Err, option_map, codes}
use Rattle.serde_json.specs.Data.{Data}
use Rattle.serde_json.specs.Find.{as_bool}
use Rattle.units.specs.Names.{is_address}
use Rattle.units.specs.Ranges.{is_create}
use Rattle.units.specs.declared.request.Operation.{Operation}
use Rattle.units.specs.declared.request.Request.{Request}
use Rattle.units.specs.declared.request.UnitUsage.{UnitUsage}
use Rattle.units.specs.declared.refusal.JsonRefusal.{JsonRefusal}
use Rattle.units.specs.declared.refusal.JsonRefusal.TheVariants.{NotJson}
use Rattle.json_objects.specs.Fields.{given, number_32, time, name, text_that, list_of, or_empty, required, allowed, required_if, after}
use Rattle.json_objects.specs.Body.{object_in}
use Rattle.charging_json.specs.Triggers.{sound_kind}
use Rattle.charging_json.specs.Usage.{entry_of, short_list_of}

-- ---- fields

-- the first that is present
abbrev pub either_place : Option Data → Option Data → Option Data
either_place None later = later
either_place (Some value) later = Some value

-- where the consumer's name stands: `nFName`, else `nFIPv4Address`, else `nFFqdn` (TS 32.291, NFIdentification)
abbrev pub consumer_place : Data → Option Data
consumer_place value = either_place (given (codes "nFName") value) (either_place (given (codes "nFIPv4Address") value) (given (codes "nFFqdn") value))

-- the name of the consumer, where it has one that is right
abbrev pub named : Option Data → Option (List ℕ)
named None = None
named (Some value) = name value

-- the name of the consumer that an identification gives
abbrev pub consumer_of : Data → Option (List ℕ)
consumer_of value = named (consumer_place value)

-- a field within an object that may be absent
abbrev pub given_within : List ℕ → Option Data → Option Data
given_within name None = None
given_within name (Some value) = given name value

-- where the charging id stands: at the top, else in the session's information
abbrev pub charging_id_place : Data → Option Data
charging_id_place value = either_place (given (codes "chargingId") value) (given_within (codes "chargingId") (given (codes "pDUSessionChargingInformation") value))

-- an indicator that is absent is false
abbrev pub is_again : Option Bool → Bool
is_again None = false
is_again (Some again) = again

-- a request with these fields; what is absent is empty
abbrev pub with_request : Operation → List ℕ → ℕ → ℕ → Option (List ℕ) → Option ℕ → Option Bool → Option (List ℕ) → Option (List UnitUsage) → Option (List (List ℕ)) → Request
with_request operation consumer stamp number subscriber charging_id again notify usage triggers = record {
  operation = operation;
  consumer = consumer;
  subscriber = subscriber;
  charging_id = charging_id;
  number = number;
  stamp = stamp;
  again = is_again again;
  notify = notify;
  usage = or_empty usage;
  triggers = or_empty triggers;
}

-- what an object is for an operation: a request, or the first field in this order that is absent or wrong
abbrev pub request_of : Operation → Data → Result Request JsonRefusal
request_of operation value =
    after (required (codes "nfConsumerIdentification") (option_map consumer_of (given (codes "nfConsumerIdentification") value))) (λ consumer.
    after (required (codes "invocationTimeStamp") (option_map time (given (codes "invocationTimeStamp") value))) (λ stamp.
    after (required (codes "invocationSequenceNumber") (option_map number_32 (given (codes "invocationSequenceNumber") value))) (λ number.
    after (required_if (is_create operation) (codes "subscriberIdentifier") (option_map name (given (codes "subscriberIdentifier") value))) (λ subscriber.
    after (required_if (is_create operation) (codes "chargingId") (option_map number_32 (charging_id_place value))) (λ charging_id.
    after (allowed (codes "retransmissionIndicator") (option_map as_bool (given (codes "retransmissionIndicator") value))) (λ again.
    after (allowed (codes "notifyUri") (option_map (text_that is_address) (given (codes "notifyUri") value))) (λ notify.
    after (allowed (codes "multipleUnitUsage") (option_map (short_list_of (entry_of stamp)) (given (codes "multipleUnitUsage") value))) (λ usage.
    after (allowed (codes "triggers") (option_map (list_of sound_kind) (given (codes "triggers") value))) (λ triggers.
    Ok (with_request operation consumer stamp number subscriber charging_id again notify usage triggers))))))))))

-- what the object of a body is, where the body is one
abbrev pub request_by : Operation → Option Data → Result Request JsonRefusal
request_by operation None = Err NotJson
request_by operation (Some value) = request_of operation value

-- the request that a body is for an operation, or why it is none
abbrev pub request_in : Operation → List ℕ → Result Request JsonRefusal
request_in operation body = request_by operation (object_in body)
