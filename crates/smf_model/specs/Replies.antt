-- Replies to the unanswered request: which are final, and what they make of the session (TS 32.290, 5.3.2 and quota management; TS 32.291, 6.1.7).
use Rattle.std.specs.Prelude.{ℕ, ◌==◌, ◌&&◌, ◌||◌, Bool, true, false, if◌then◌else◌, Option, Some, None, is_some, unwrap_or, List, map, fold, bytes_eq}
use Rattle.std.specs.List.{find}
use Rattle.units.specs.declared.request.Operation.{Operation}
use Rattle.units.specs.declared.request.Operation.TheVariants.{Create, Update, Release}
use Rattle.units.specs.declared.request.Request.{Request}
use Rattle.units.specs.declared.answer.Answer.{Answer}
use Rattle.units.specs.declared.answer.UnitInfo.{UnitInfo}
use Rattle.units.specs.declared.reply.Problem.{Problem}
use Rattle.units.specs.declared.reply.Reply.{Reply}
use Rattle.units.specs.declared.reply.Reply.TheVariants.{Created, Updated, Released, Refused}
use Rattle.units.specs.declared.words.Cause.{Cause}
use Rattle.units.specs.declared.words.Cause.TheVariants.{SequencePassed, InvalidMessage, MandatoryMissing, MandatoryIncorrect, OptionalIncorrect, UserUnknown, SessionExists, SessionClosed}
use Rattle.units.specs.Words.{name_of_cause}
use Rattle.meter.specs.declared.horizon.Horizon.{Horizon}
use Rattle.quotas.specs.Quota.{answered}
use Rattle.smf_model.specs.declared.session.Why.TheVariants.{Refused as WasRefused}
use Rattle.smf_model.specs.declared.session.Place.TheVariants.{Answered}
use Rattle.smf_model.specs.declared.session.Holding.{Holding}
use Rattle.smf_model.specs.declared.session.Entry.{Entry}
use Rattle.smf_model.specs.declared.session.Rule.{Rule}
use Rattle.smf_model.specs.declared.session.Session.{Session}
use Rattle.smf_model.specs.Rules.{or_earlier, with_rules}
use Rattle.smf_model.specs.Sending.{at_rest, latest_peer, with_peer}
use Rattle.smf_model.specs.Settle.{is_frozen}
use Rattle.smf_model.specs.Traffic.{ended, ended_for}

-- a text is the name of this cause (TS 32.291, 6.1.7)
abbrev pub is_named : List ℕ → Cause → Bool
is_named text cause = bytes_eq text (name_of_cause cause)

-- the causes of a bad request that no repeat mends (this product's own profile of TS 32.291, 6.1.7)
abbrev pub is_bad_request : List ℕ → Bool
is_bad_request cause =
    is_named cause SequencePassed || (is_named cause InvalidMessage || (is_named cause MandatoryMissing
    || (is_named cause MandatoryIncorrect || is_named cause OptionalIncorrect)))

-- the refusals that end a session (this product's own profile of TS 32.291, 6.1.7)
abbrev pub is_final_refusal : Problem → Bool
is_final_refusal p =
    ((p.status == 404) && is_named p.cause UserUnknown)
    || (((p.status == 403) && (is_named p.cause SessionExists || is_named p.cause SessionClosed))
    || ((p.status == 400) && is_bad_request p.cause))

-- a final reply to a request: the success of its operation, with its number where the reply has one, or one of those refusals
abbrev pub is_final_for : Operation → Reply → ℕ → Bool
is_final_for Create (Created reference answer) number = answer.number == number
is_final_for (Update r) (Updated answer) number = answer.number == number
is_final_for (Release r) Released number = true
is_final_for operation (Refused problem) number = is_final_refusal problem
is_final_for operation other number = false

-- it is one for the unanswered request of this number
abbrev pub is_answer_to : ℕ → Reply → Option Request → Bool
is_answer_to number reply None = false
is_answer_to number reply (Some q) = (q.number == number) && is_final_for q.operation reply number

-- what was in the request is answered
abbrev pub answer_holding : Holding → Holding
answer_holding h = if is_frozen h.place then record h { place = Answered } else h

-- of several entries of one rating group in an answer the first counts
abbrev pub info_of : ℕ → List UnitInfo → Option UnitInfo
info_of group units = find (λ i. i.group == group) units

-- an entry with granted units sets the horizon: from the request's stamp to the tariff time change (TS 32.291, tariffTimeChange)
abbrev pub horizon_after : ℕ → Option UnitInfo → Option Horizon → Option Horizon
horizon_after stamp None horizon = horizon
horizon_after stamp (Some info) horizon = if is_some info.grant then Some (record { group = info.group; from = stamp; until = info.switch }) else horizon

-- what an answer makes of a rating group
abbrev pub answer_entry : ℕ → List UnitInfo → Entry → Entry
answer_entry stamp units e = record e { quota = answered stamp (info_of e.number units) e.quota; horizon = horizon_after stamp (info_of e.number units) e.horizon }

-- the trigger rules with those of an answer for a rating group, where it has an entry of it
abbrev pub with_info_rules : ℕ → Option UnitInfo → List Rule → List Rule
with_info_rules group None rules = rules
with_info_rules group (Some info) rules = with_rules (Some group) info.triggers rules

-- with those for each rating group of the session
abbrev pub with_group_rules : List UnitInfo → List Rule → Entry → List Rule
with_group_rules units rules e = with_info_rules e.number (info_of e.number units) rules

-- with all of them: for the session, and for each of its rating groups
abbrev pub rules_after : Answer → List Entry → List Rule → List Rule
rules_after answer entries rules = fold (with_group_rules answer.units) (with_rules None answer.triggers rules) entries

-- a success with an answer sets the rating groups, and adopts what it gives of failover, failure handling and trigger rules
abbrev pub succeeded : ℕ → Option ℕ → Answer → Session → Session
succeeded stamp reference answer s = record s {
  request = None;
  sending = at_rest;
  reference = or_earlier reference s.reference;
  failover = unwrap_or answer.failover s.failover;
  handling = unwrap_or answer.handling s.handling;
  holdings = map answer_holding s.holdings;
  groups = map (answer_entry stamp answer.units) s.groups;
  rules = rules_after answer s.groups s.rules;
}

-- a released session has ended, with nothing of the request held
abbrev pub released : ℕ → Session → Session
released now s = ended now (record s { holdings = map answer_holding s.holdings })

-- what a final reply makes of the session, by its kind
abbrev pub replied : ℕ → ℕ → Reply → Session → Session
replied now stamp (Created reference answer) s = succeeded stamp (Some reference) answer s
replied now stamp (Updated answer) s = succeeded stamp None answer s
replied now stamp Released s = released now s
replied now stamp (Refused problem) s = ended_for WasRefused now s

-- a final reply to the unanswered request, from whichever attempt it comes; from then on rounds begin with the peer of the latest attempt
abbrev pub answered_by : ℕ → Reply → Option Request → Session → Session
answered_by now reply None s = s
answered_by now reply (Some q) s = with_peer (latest_peer s) (replied now q.stamp reply s)
