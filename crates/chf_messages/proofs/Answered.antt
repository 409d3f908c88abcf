-- Each message has a response.
use Rattle.std.proofs.Common.{◌≡◌, ℕ, true, List, Option, Some, None, is_some, Result, Ok, Err, refl, subst, sym}
use Rattle.std.specs.Prelude.{option_map}
use Rattle.std.specs.Option.{option_and_then}
use Rattle.units.specs.declared.refusal.JsonRefusal.{JsonRefusal}
use Rattle.units.specs.declared.reply.Reply.{Reply}
use Rattle.units.specs.declared.request.Operation.{Operation}
use Rattle.units.specs.declared.request.Request.{Request}
use Rattle.units.specs.declared.spending.SpendContext.{SpendContext}
use Rattle.routes.specs.declared.call.Call.{Call}
use Rattle.routes.specs.declared.call.Call.TheVariants as call
use Rattle.routes.specs.declared.call.NoCall.{NoCall}
use Rattle.routes.specs.Calls.{call_of}
use Rattle.chf_core.specs.declared.command.Command.{Command}
use Rattle.chf_core.specs.declared.command.Command.TheVariants.{Charge, Subscribe, Modify, Unsubscribe}
use Rattle.chf_core.specs.declared.command.Outcome.{Outcome}
use Rattle.chf_core.specs.declared.command.Outcome.TheVariants.{Charged, Spending, Removed, Done, Known as OutcomeKnown}
use Rattle.chf_core.specs.declared.decision.Verdict.{Verdict}
use Rattle.chf_core.specs.declared.decision.Verdict.TheVariants.{Kept, Known, Refused, Fresh}
use Rattle.chf_core.specs.declared.refusal.ChfRefusal.{ChfRefusal}
use Rattle.chf_core.specs.declared.refusal.ChfRefusal.TheVariants.{UnknownAccount, SessionExists, SessionClosed, SequencePassed, UnknownReference, TopUpDiffers, WrongSupi, UnknownCounter, UnknownSubscription, UserUnknown}
use Rattle.chf_core.specs.State.{State, kept_at}
use Rattle.chf_core.specs.Deciding.{decision}
use Rattle.chf_core.specs.After.{state_of}
use Rattle.chf_core.specs.Standing.{RequestsAreAnswered, refusal_reply, reply_of, verdict_reply}
use Rattle.chf_core.specs.Joined.{DecisionsAreJoined}
use Rattle.chf_core.specs.Verdicts.{VerdictsSuitCommands, IsOfCommand, IsOfSpending, IsOfUnsubscribe, RefusesSubscribe, RefusesModify, RefusesUnsubscribe}
use Rattle.charging_json.specs.Request.{request_in}
use Rattle.spend_json.specs.Context.{context_in}
use Rattle.chf_messages.specs.Responses.{response_of}
use Rattle.chf_messages.specs.Answering.{message_response, outcome_response, refused_reply, verdict_response}
use Rattle.chf_messages.specs.Routing.{charge_in, command_by, command_in, method_text, modify_in, subscribe_in}
use Rattle.chf_messages.specs.Laws.{EachMessageIsAnswered}

-- a command of a message has a response
abbrev IsAnswered : State → Command → Verdict → Type 0
IsAnswered s c v = is_some (verdict_response s c v) ≡ true

-- ---- requests

by_reply : (o : Option Reply) → is_some o ≡ true → is_some (option_map response_of o) ≡ true
by_reply None e = absurd (cc)
by_reply (Some one) e = refl

refusal_stays : (refusal : ChfRefusal) → is_some (refusal_reply refusal) ≡ true → is_some (refused_reply refusal) ≡ true
refusal_stays UserUnknown e = refl
refusal_stays WrongSupi e = refl
refusal_stays UnknownCounter e = refl
refusal_stays UnknownSubscription e = refl
refusal_stays UnknownAccount e = e
refusal_stays SessionExists e = e
refusal_stays (SessionClosed last) e = e
refusal_stays (SequencePassed last) e = e
refusal_stays UnknownReference e = e
refusal_stays TopUpDiffers e = e

outcome_stays : (q : Request) (o : Outcome) → is_some (reply_of o) ≡ true → is_some (outcome_response (Charge q) o) ≡ true
outcome_stays q (Charged one) e = refl
outcome_stays q (Spending id status) e = refl
outcome_stays q Removed e = refl
outcome_stays q Done e = absurd (cc)
outcome_stays q OutcomeKnown e = absurd (cc)

request_stays : (s : State) (q : Request) (v : Verdict) → is_some (verdict_reply s v) ≡ true → IsAnswered s (Charge q) v
request_stays s q (Kept place) e = by_reply (option_and_then (λ r. reply_of r.outcome) (kept_at s place)) e
request_stays s q Known e = absurd (cc)
request_stays s q (Refused refusal) e = by_reply (refused_reply refusal) (refusal_stays refusal e)
request_stays s q (Fresh o) e = outcome_stays q o e

-- ---- subscriptions to spending limits

subscribe_refused : (refusal : ChfRefusal) → RefusesSubscribe refusal → is_some (refused_reply refusal) ≡ true
subscribe_refused UserUnknown h = refl
subscribe_refused UnknownCounter h = refl
subscribe_refused WrongSupi h = absurd h
subscribe_refused UnknownSubscription h = absurd h
subscribe_refused UnknownAccount h = absurd h
subscribe_refused SessionExists h = absurd h
subscribe_refused (SessionClosed last) h = absurd h
subscribe_refused (SequencePassed last) h = absurd h
subscribe_refused UnknownReference h = absurd h
subscribe_refused TopUpDiffers h = absurd h

modify_refused : (refusal : ChfRefusal) → RefusesModify refusal → is_some (refused_reply refusal) ≡ true
modify_refused UserUnknown h = absurd h
modify_refused UnknownCounter h = refl
modify_refused WrongSupi h = refl
modify_refused UnknownSubscription h = refl
modify_refused UnknownAccount h = absurd h
modify_refused SessionExists h = absurd h
modify_refused (SessionClosed last) h = absurd h
modify_refused (SequencePassed last) h = absurd h
modify_refused UnknownReference h = absurd h
modify_refused TopUpDiffers h = absurd h

unsubscribe_refused : (refusal : ChfRefusal) → RefusesUnsubscribe refusal → is_some (refused_reply refusal) ≡ true
unsubscribe_refused UserUnknown h = absurd h
unsubscribe_refused UnknownCounter h = absurd h
unsubscribe_refused WrongSupi h = absurd h
unsubscribe_refused UnknownSubscription h = refl
unsubscribe_refused UnknownAccount h = absurd h
unsubscribe_refused SessionExists h = absurd h
unsubscribe_refused (SessionClosed last) h = absurd h
unsubscribe_refused (SequencePassed last) h = absurd h
unsubscribe_refused UnknownReference h = absurd h
unsubscribe_refused TopUpDiffers h = absurd h

subscribe_suits : (s : State) (context : SpendContext) (v : Verdict) → IsOfSpending RefusesSubscribe v → IsAnswered s (Subscribe context) v
subscribe_suits s context (Kept place) h = absurd h
subscribe_suits s context Known h = absurd h
subscribe_suits s context (Refused refusal) h = by_reply (refused_reply refusal) (subscribe_refused refusal h)
subscribe_suits s context (Fresh o) h = subst (λ x. IsAnswered s (Subscribe context) (Fresh x)) (sym h.1.1) refl

modify_suits : (s : State) (id : ℕ) (context : SpendContext) (v : Verdict) → IsOfSpending RefusesModify v → IsAnswered s (Modify id context) v
modify_suits s id context (Kept place) h = absurd h
modify_suits s id context Known h = absurd h
modify_suits s id context (Refused refusal) h = by_reply (refused_reply refusal) (modify_refused refusal h)
modify_suits s id context (Fresh o) h = subst (λ x. IsAnswered s (Modify id context) (Fresh x)) (sym h.1.1) refl

unsubscribe_suits : (s : State) (id : ℕ) (v : Verdict) → IsOfUnsubscribe v → IsAnswered s (Unsubscribe id) v
unsubscribe_suits s id (Kept place) h = absurd h
unsubscribe_suits s id Known h = absurd h
unsubscribe_suits s id (Refused refusal) h = by_reply (refused_reply refusal) (unsubscribe_refused refusal h)
unsubscribe_suits s id (Fresh o) h = subst (λ x. IsAnswered s (Unsubscribe id) (Fresh x)) (sym h) refl

-- ---- messages

module _ (answered : RequestsAreAnswered) (suit : VerdictsSuitCommands) (joined : DecisionsAreJoined) (a : List Command) where
  suits : (c : Command) → IsOfCommand a c (decision (state_of a) c)
  suits c = subst (IsOfCommand a c) (sym (joined a c)) (suit a c)

  charge_answered : (operation : Operation) (r : Result Request JsonRefusal) → is_some (message_response (state_of a) (charge_in operation r)) ≡ true
  charge_answered operation (Ok q) = request_stays (state_of a) q (decision (state_of a) (Charge q)) (answered a q)
  charge_answered operation (Err refusal) = refl

  subscribe_answered : (r : Result SpendContext JsonRefusal) → is_some (message_response (state_of a) (subscribe_in r)) ≡ true
  subscribe_answered (Ok context) = subscribe_suits (state_of a) context (decision (state_of a) (Subscribe context)) (suits (Subscribe context))
  subscribe_answered (Err refusal) = refl

  modify_answered : (id : ℕ) (r : Result SpendContext JsonRefusal) → is_some (message_response (state_of a) (modify_in id r)) ≡ true
  modify_answered id (Ok context) = modify_suits (state_of a) id context (decision (state_of a) (Modify id context)) (suits (Modify id context))
  modify_answered id (Err refusal) = refl

  call_answered : (c : Call) (body : List ℕ) → is_some (message_response (state_of a) (command_in c body)) ≡ true
  call_answered (call.Charge operation) body = charge_answered operation (request_in operation body)
  call_answered call.Subscribe body = subscribe_answered (context_in body)
  call_answered (call.Modify id) body = modify_answered id (context_in body)
  call_answered (call.Unsubscribe id) body = unsubscribe_suits (state_of a) id (decision (state_of a) (Unsubscribe id)) (suits (Unsubscribe id))

  pub message_answered : (r : Result Call NoCall) (body : List ℕ) → is_some (message_response (state_of a) (command_by r body)) ≡ true
  message_answered (Ok c) body = call_answered c body
  message_answered (Err refusal) body = refl

pub always_a_response : RequestsAreAnswered → VerdictsSuitCommands → DecisionsAreJoined → EachMessageIsAnswered
always_a_response answered suit joined commands method path body =
    message_answered answered suit joined commands (call_of (method_text method) path) body
