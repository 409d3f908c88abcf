-- The cause of a refused body (TS 29.500, 5.2.7.2; TS 29.571, ProblemDetails).
use Rattle.std.specs.Prelude.{ℕ, ◌&&◌, ◌||◌, Bool, List, bytes_eq, codes}
use Rattle.units.specs.Ranges.{is_create}
use Rattle.units.specs.declared.words.Cause.{Cause}
use Rattle.units.specs.declared.request.Operation.{Operation}
use Rattle.units.specs.declared.refusal.JsonRefusal.{JsonRefusal}
use Rattle.json_objects.specs.Cause.{cause_by}

-- the fields that each request has to have
abbrev pub is_always_required : List ℕ → Bool
is_always_required label = bytes_eq label (codes "nfConsumerIdentification") || bytes_eq label (codes "invocationTimeStamp") || bytes_eq label (codes "invocationSequenceNumber")

-- the fields that a Create alone has to have
abbrev pub is_required_in_create : List ℕ → Bool
is_required_in_create label = bytes_eq label (codes "subscriberIdentifier") || bytes_eq label (codes "chargingId")

-- the fields that a request of an operation has to have
abbrev pub is_required : Operation → List ℕ → Bool
is_required operation label = is_always_required label || (is_create operation && is_required_in_create label)

-- the cause of a refused charging data request
abbrev pub cause_of : Operation → JsonRefusal → Cause
cause_of operation refusal = cause_by (is_required operation) refusal
