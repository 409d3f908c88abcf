-- Which verdicts a command may get: each request is answered by a reply, each operator's command carried out, known or
-- refused, and each call on a subscription to spending limits carried out or refused (TS 32.290, 5.3.2; TS 29.594, 4.2;
-- this product's own).
use Rattle.std.specs.Prelude.{◌≡◌, ⊤, ℕ, List, Some}
use Rattle.units.specs.declared.reply.Reply.{Reply}
use Rattle.units.specs.declared.spending.SpendStatus.{SpendStatus}
use Rattle.chf_core.specs.declared.command.Command.{Command}
use Rattle.chf_core.specs.declared.command.Command.TheVariants.{Charge, Subscribe, Modify, Unsubscribe}
use Rattle.chf_core.specs.declared.command.Outcome.TheVariants as outcome
use Rattle.chf_core.specs.declared.refusal.ChfRefusal.{ChfRefusal}
use Rattle.chf_core.specs.declared.refusal.ChfRefusal.TheVariants.{UnknownAccount, SessionExists, SessionClosed, SequencePassed, UnknownReference, TopUpDiffers, WrongSupi, UnknownCounter, UnknownSubscription, UserUnknown}
use Rattle.chf_core.specs.declared.decision.Verdict.{Verdict}
use Rattle.chf_core.specs.declared.decision.Verdict.TheVariants.{Kept, Known, Refused, Fresh}
use Rattle.chf_core.specs.Decisions.{decision}
use Rattle.chf_core.specs.Outcomes.{outcome_at}

-- the refusals of requests, and those of top-ups
abbrev pub RefusesRequest : ChfRefusal → Type 0
RefusesRequest SessionExists = ⊤
RefusesRequest (SessionClosed last) = ⊤
RefusesRequest (SequencePassed last) = ⊤
RefusesRequest UnknownReference = ⊤
RefusesRequest other = ⊥

-- the refusals that a top-up may get
abbrev pub RefusesTopUp : ChfRefusal → Type 0
RefusesTopUp UnknownAccount = ⊤
RefusesTopUp TopUpDiffers = ⊤
RefusesTopUp other = ⊥

-- the refusals that a new subscription to spending limits may get
abbrev pub RefusesSubscribe : ChfRefusal → Type 0
RefusesSubscribe UserUnknown = ⊤
RefusesSubscribe UnknownCounter = ⊤
RefusesSubscribe other = ⊥

-- the refusals that another context for a subscription may get
abbrev pub RefusesModify : ChfRefusal → Type 0
RefusesModify UnknownSubscription = ⊤
RefusesModify WrongSupi = ⊤
RefusesModify UnknownCounter = ⊤
RefusesModify other = ⊥

-- the refusals that the end of a subscription may get
abbrev pub RefusesUnsubscribe : ChfRefusal → Type 0
RefusesUnsubscribe UnknownSubscription = ⊤
RefusesUnsubscribe other = ⊥

-- a request is answered by a reply that was kept, a refusal of its own, or a new reply
abbrev pub IsOfRequest : List Command → Verdict → Type 0
IsOfRequest commands (Kept place) = (reply : Reply) × (outcome_at commands place ≡ Some (outcome.Charged reply))
IsOfRequest commands Known = ⊥
IsOfRequest commands (Refused refusal) = RefusesRequest refusal
IsOfRequest commands (Fresh o) = (reply : Reply) × (o ≡ outcome.Charged reply)

-- an operator's command is known, refused as a top-up, or done
abbrev pub IsOfOperator : Verdict → Type 0
IsOfOperator (Kept place) = ⊥
IsOfOperator Known = ⊤
IsOfOperator (Refused refusal) = RefusesTopUp refusal
IsOfOperator (Fresh o) = o ≡ outcome.Done

-- a new subscription and another context are refused for their reasons, or told their number and the statuses
abbrev pub IsOfSpending : (ChfRefusal → Type 0) → Verdict → Type 0
IsOfSpending Refuses (Kept place) = ⊥
IsOfSpending Refuses Known = ⊥
IsOfSpending Refuses (Refused refusal) = Refuses refusal
IsOfSpending Refuses (Fresh o) = (id : ℕ) × ((status : SpendStatus) × (o ≡ outcome.Spending id status))

-- the end of a subscription is refused for its reason, or done
abbrev pub IsOfUnsubscribe : Verdict → Type 0
IsOfUnsubscribe (Kept place) = ⊥
IsOfUnsubscribe Known = ⊥
IsOfUnsubscribe (Refused refusal) = RefusesUnsubscribe refusal
IsOfUnsubscribe (Fresh o) = o ≡ outcome.Removed

-- a verdict is one that this command may get
abbrev pub IsOfCommand : List Command → Command → Verdict → Type 0
IsOfCommand commands (Charge q) v = IsOfRequest commands v
IsOfCommand commands (Subscribe context) v = IsOfSpending RefusesSubscribe v
IsOfCommand commands (Modify id context) v = IsOfSpending RefusesModify v
IsOfCommand commands (Unsubscribe id) v = IsOfUnsubscribe v
IsOfCommand commands other v = IsOfOperator v

-- So after every list of commands.
abbrev pub VerdictsSuitCommands : Type 0
VerdictsSuitCommands = (commands : List Command) (c : Command) → IsOfCommand commands c (decision commands c)
