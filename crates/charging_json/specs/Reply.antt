-- The reply to a charging data request (TS 32.291, 6.1.6.2.1.6 and 6.1.7; TS 29.571, ProblemDetails; in this product's profile).
use Rattle.std.specs.Prelude.{ℕ, ◌==◌, Bool, List, Option, Some, None, Result, Ok, Err, if◌then◌else◌, option_map, option_and_then, codes}
use Rattle.serde_json.specs.Data.{Data}
use Rattle.serde_json.specs.Find.{as_str}
use Rattle.units.specs.Words.{handling_named, failover_named}
use Rattle.units.specs.declared.answer.Answer.{Answer}
use Rattle.units.specs.declared.answer.Handling.{Handling}
use Rattle.units.specs.declared.answer.UnitInfo.{UnitInfo}
use Rattle.units.specs.declared.trigger.TriggerRule.{TriggerRule}
use Rattle.units.specs.declared.reply.Problem.{Problem}
use Rattle.units.specs.declared.reply.Reply.{Reply}
use Rattle.units.specs.declared.reply.Reply.TheVariants.{Created, Updated, Released, Refused}
use Rattle.units.specs.declared.refusal.JsonRefusal.{JsonRefusal}
use Rattle.units.specs.declared.refusal.JsonRefusal.TheVariants.{NotJson}
use Rattle.json_objects.specs.Fields.{given, is_object, number_32, time, optional, list_of, or_empty, required, allowed, after}
use Rattle.charging_json.specs.Rules.{rules_of}
use Rattle.charging_json.specs.Information.{info_of}
use Rattle.charging_json.specs.Location.{reference_of}
use Rattle.json_objects.specs.Body.{object_in}

-- the failure handling that a value names
abbrev pub handling : Data → Option Handling
handling value = option_and_then handling_named (as_str value)

-- an invocation result: an object whose failure handling may be absent
abbrev pub result_of : Data → Option (Option Handling)
result_of value = if is_object value then optional handling (given (codes "failureHandling") value) else None

-- whether a value says that session failover is supported
abbrev pub failover : Data → Option Bool
failover value = option_and_then failover_named (as_str value)

-- a value within a field that may be absent
abbrev pub flat : {T : Type 0} → Option (Option T) → Option T
flat None = None
flat (Some o) = o

-- an answer with these fields; what is absent is empty
abbrev pub with_answer : ℕ → ℕ → Option (Option Handling) → Option Bool → Option (List TriggerRule) → Option (List UnitInfo) → Answer
with_answer stamp number handling failover triggers units = record { number = number; stamp = stamp; failover = failover; handling = flat handling; triggers = or_empty triggers; units = or_empty units }

-- what an object is: an answer, or the first field in this order that is absent or wrong
abbrev pub answer_of : Data → Result Answer JsonRefusal
answer_of value =
    after (required (codes "invocationTimeStamp") (option_map time (given (codes "invocationTimeStamp") value))) (λ stamp.
    after (required (codes "invocationSequenceNumber") (option_map number_32 (given (codes "invocationSequenceNumber") value))) (λ number.
    after (allowed (codes "invocationResult") (option_map result_of (given (codes "invocationResult") value))) (λ handling.
    after (allowed (codes "sessionFailover") (option_map failover (given (codes "sessionFailover") value))) (λ failover.
    after (allowed (codes "triggers") (option_map rules_of (given (codes "triggers") value))) (λ triggers.
    after (allowed (codes "multipleUnitInformation") (option_map (list_of info_of) (given (codes "multipleUnitInformation") value))) (λ units.
    Ok (with_answer stamp number handling failover triggers units)))))))

-- problem details with these members
abbrev pub with_problem : ℕ → List ℕ → Option (List ℕ) → Problem
with_problem status cause detail = record { status = status; cause = cause; detail = detail }

-- problem details of a response with this status
abbrev pub problem_of : ℕ → Data → Result Problem JsonRefusal
problem_of status value =
    after (required (codes "cause") (option_map as_str (given (codes "cause") value))) (λ cause.
    after (allowed (codes "detail") (option_map as_str (given (codes "detail") value))) (λ detail.
    Ok (with_problem status cause detail)))

-- the reference that a response gives
abbrev pub reference_given : Option (List ℕ) → Result ℕ JsonRefusal
reference_given location = required (codes "Location") (option_map reference_of location)

-- a session that was made: its answer, and at last its reference
abbrev pub created_of : Option (List ℕ) → Data → Result Reply JsonRefusal
created_of location value = after (answer_of value) (λ answer. after (reference_given location) (λ reference. Ok (Created reference answer)))

-- a session that was updated: its answer
abbrev pub updated_of : Data → Result Reply JsonRefusal
updated_of value = after (answer_of value) (λ answer. Ok (Updated answer))

-- a request that was refused with this status: its problem
abbrev pub refused_of : ℕ → Data → Result Reply JsonRefusal
refused_of status value = after (problem_of status value) (λ problem. Ok (Refused problem))

-- what the object in a response's body is, where its status has one (every status but 204)
abbrev pub reply_of : ℕ → Option (List ℕ) → Data → Result Reply JsonRefusal
reply_of status location value =
    if status == 201 then created_of location value
    else if status == 200 then updated_of value
    else refused_of status value

-- what the object of a body is, where the body is one
abbrev pub reply_by : ℕ → Option (List ℕ) → Option Data → Result Reply JsonRefusal
reply_by status location None = Err NotJson
reply_by status location (Some value) = reply_of status location value

-- the reply that a response with this status, Location and body is, or why it is none. The body of status 204 is not read
abbrev pub reply_in : ℕ → Option (List ℕ) → List ℕ → Result Reply JsonRefusal
reply_in status location body = if status == 204 then Ok Released else reply_by status location (object_in body)
