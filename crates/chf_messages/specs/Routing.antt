-- What a message asks of the charging function: its path, its method and its body are looked at, in this order (TS 32.291, 6.1.3; TS 29.594, 5.3; the order is this product's own).
use Rattle.std.specs.Prelude.{ℕ, List, Option, Some, None, Result, Ok, Err, codes}
use Rattle.units.specs.Words.{name_of_cause}
use Rattle.units.specs.declared.words.Cause.{Cause}
use Rattle.units.specs.declared.words.Cause.TheVariants.{NotFound}
use Rattle.units.specs.declared.refusal.JsonRefusal.{JsonRefusal}
use Rattle.units.specs.declared.refusal.JsonRefusal.TheVariants.{NotJson, Missing, Wrong, OutOfMemory}
use Rattle.units.specs.declared.reply.Reply.{Reply}
use Rattle.units.specs.declared.reply.Reply.TheVariants as reply
use Rattle.units.specs.declared.request.Operation.{Operation}
use Rattle.units.specs.declared.request.Request.{Request}
use Rattle.units.specs.declared.spending.SpendContext.{SpendContext}
use Rattle.routes.specs.declared.call.Call.{Call}
use Rattle.routes.specs.declared.call.Call.TheVariants as call
use Rattle.routes.specs.declared.call.NoCall.{NoCall}
use Rattle.routes.specs.Calls.{call_of, status_of}
use Rattle.chf_core.specs.declared.command.Command.{Command}
use Rattle.chf_core.specs.declared.command.Command.TheVariants.{Charge, Subscribe, Modify, Unsubscribe}
use Rattle.chf_core.specs.Standing.{problem}
use Rattle.charging_json.specs.Cause.{cause_of}
use Rattle.charging_json.specs.Request.{request_in}
use Rattle.spend_json.specs.Cause as spending
use Rattle.spend_json.specs.Context.{context_in}
use Rattle.chf_messages.specs.declared.method.Method.{Method}
use Rattle.chf_messages.specs.declared.method.Method.TheVariants.{Post, Put, Delete}

-- the word of a method (RFC 9110, 9.3)
abbrev pub method_text : Method → List ℕ
method_text Post = codes "POST"
method_text Put = codes "PUT"
method_text Delete = codes "DELETE"

-- what is no call is not found
abbrev pub no_call : NoCall → Reply
no_call refusal = problem (status_of refusal) NotFound

-- the field that a refused body is refused for
abbrev pub field_of : JsonRefusal → Option (List ℕ)
field_of NotJson = None
field_of (Missing field) = Some field
field_of (Wrong field) = Some field
field_of OutOfMemory = None

-- the problem of a body that is refused for a cause, with its field
abbrev pub body_problem : Cause → JsonRefusal → Reply
body_problem why refusal =
    reply.Refused (record { status = 400; cause = name_of_cause why; detail = field_of refusal })

-- a charging data request, or the problem of its body
abbrev pub charge_in : Operation → Result Request JsonRefusal → Result Command Reply
charge_in operation (Ok request) = Ok (Charge request)
charge_in operation (Err refusal) = Err (body_problem (cause_of operation refusal) refusal)

-- a new subscription to spending limits, or the problem of its body
abbrev pub subscribe_in : Result SpendContext JsonRefusal → Result Command Reply
subscribe_in (Ok context) = Ok (Subscribe context)
subscribe_in (Err refusal) = Err (body_problem (spending.cause_of refusal) refusal)

-- another context of a subscription, or the problem of its body
abbrev pub modify_in : ℕ → Result SpendContext JsonRefusal → Result Command Reply
modify_in id (Ok context) = Ok (Modify id context)
modify_in id (Err refusal) = Err (body_problem (spending.cause_of refusal) refusal)

-- the command of a call; the body of one that ends a subscription is not read
abbrev pub command_in : Call → List ℕ → Result Command Reply
command_in (call.Charge operation) body = charge_in operation (request_in operation body)
command_in call.Subscribe body = subscribe_in (context_in body)
command_in (call.Modify id) body = modify_in id (context_in body)
command_in (call.Unsubscribe id) body = Ok (Unsubscribe id)

-- the command of what may be a call
abbrev pub command_by : Result Call NoCall → List ℕ → Result Command Reply
command_by (Ok one) body = command_in one body
command_by (Err refusal) body = Err (no_call refusal)

-- the command that a message gives, or the reply that refuses it
abbrev pub command_at : Method → List ℕ → List ℕ → Result Command Reply
command_at method path body = command_by (call_of (method_text method) path) body
