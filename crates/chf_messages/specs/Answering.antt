-- What a message does to the charging function and what response it has (TS 32.291, 6.1; TS 29.594, 5.3).
use Rattle.std.specs.Prelude.{Option, Some, None, Result, Ok, Err, codes, option_map}
use Rattle.std.specs.Option.{option_and_then}
use Rattle.units.specs.declared.reply.Reply.{Reply}
use Rattle.units.specs.declared.reply.Reply.TheVariants as reply
use Rattle.units.specs.declared.words.Cause.TheVariants as cause
use Rattle.units.specs.Words.{name_of_cause}
use Rattle.chf_core.specs.declared.command.Command.{Command}
use Rattle.chf_core.specs.declared.command.Command.TheVariants.{Subscribe}
use Rattle.chf_core.specs.declared.command.Outcome.{Outcome}
use Rattle.chf_core.specs.declared.command.Outcome.TheVariants.{Charged, Spending, Removed}
use Rattle.chf_core.specs.declared.decision.Verdict.{Verdict}
use Rattle.chf_core.specs.declared.decision.Verdict.TheVariants.{Kept, Known, Refused, Fresh}
use Rattle.chf_core.specs.declared.refusal.ChfRefusal.{ChfRefusal}
use Rattle.chf_core.specs.declared.refusal.ChfRefusal.TheVariants.{WrongSupi, UnknownCounter, UnknownSubscription, UserUnknown}
use Rattle.chf_core.specs.State.{State, kept_at}
use Rattle.chf_core.specs.Deciding.{decision}
use Rattle.chf_core.specs.After.{after}
use Rattle.chf_core.specs.Standing.{problem, refusal_reply, reply_of}
use Rattle.chf_messages.specs.declared.response.Response.{Response}
use Rattle.chf_messages.specs.Responses.{given_response, made_response, removed_response, response_of}

-- the state after a decision on a command: what is fresh is entered
abbrev pub decided : State → Command → Verdict → State
decided s command (Fresh outcome) = after s command
decided s command other = s

-- the response to what the command of a message comes to
abbrev pub outcome_response : Command → Outcome → Option Response
outcome_response command (Charged one) = Some (response_of one)
outcome_response (Subscribe context) (Spending id status) = Some (made_response id status)
outcome_response command (Spending id status) = Some (given_response status)
outcome_response command Removed = Some removed_response
outcome_response command other = None

-- the problem that refuses a message (TS 29.594, 5.6.3; TS 29.571, 5.2.4.1; TS 32.291, 6.1.7)
abbrev pub refused_reply : ChfRefusal → Option Reply
refused_reply UserUnknown = Some (problem 404 cause.UserUnknown)
refused_reply WrongSupi = Some (reply.Refused (record {
  status = 400;
  cause = name_of_cause cause.MandatoryIncorrect;
  detail = Some (codes "supi");
}))
refused_reply UnknownCounter =
    Some (reply.Refused (record { status = 400; cause = codes "UNKNOWN_POLICY_COUNTERS"; detail = None }))
refused_reply UnknownSubscription =
    Some (reply.Refused (record { status = 404; cause = codes "SUBSCRIPTION_NOT_FOUND"; detail = None }))
refused_reply other = refusal_reply other

-- the response to what is decided on the command of a message: the first reply where a request is kept
abbrev pub verdict_response : State → Command → Verdict → Option Response
verdict_response s command (Kept place) =
    option_map response_of (option_and_then (λ r. reply_of r.outcome) (kept_at s place))
verdict_response s command Known = None
verdict_response s command (Refused refusal) = option_map response_of (refused_reply refusal)
verdict_response s command (Fresh outcome) = outcome_response command outcome

-- the response to a message: that of its command, or the one that refuses it
abbrev pub message_response : State → Result Command Reply → Option Response
message_response s (Err one) = Some (response_of one)
message_response s (Ok command) = verdict_response s command (decision s command)

-- the state after a message
abbrev pub after_message : State → Result Command Reply → State
after_message s (Err one) = s
after_message s (Ok command) = decided s command (decision s command)
