-- What is decided on a command in a state, by the order of its checks, and the first reply to a request (TS 32.290,
-- 5.3.2; the order is this product's own).
use Rattle.std.specs.Prelude.{ℕ, ◌+◌, nat_le, Bool, false, if◌then◌else◌, List, [], length, Option, Some, None}
use Rattle.units.specs.declared.request.Operation.{Operation}
use Rattle.units.specs.declared.request.Operation.TheVariants.{Create, Update, Release}
use Rattle.units.specs.declared.request.Request.{Request}
use Rattle.units.specs.declared.spending.SpendContext.{SpendContext}
use Rattle.units.specs.declared.spending.SpendStatus.{SpendStatus}
use Rattle.units.specs.declared.answer.Answer.{Answer}
use Rattle.units.specs.declared.reply.Reply.{Reply}
use Rattle.units.specs.declared.reply.Reply.TheVariants as reply
use Rattle.sessions.specs.Content.{same_content}
use Rattle.accounts.specs.Endings.{count_ending, Until}
use Rattle.records.specs.Book.{closable}
use Rattle.counters.specs.Subscriptions.{context_of}
use Rattle.counters.specs.Watching.{are_known}
use Rattle.notices.specs.Watched.{is_first}
use Rattle.chf_core.specs.declared.command.Command.{Command}
use Rattle.chf_core.specs.declared.command.Command.TheVariants.{Setup, Charge, Subscriber, TopUp, Expire, CloseRecords, Subscribe, Modify, Unsubscribe, NoticeSent}
use Rattle.chf_core.specs.declared.command.Outcome.{Outcome}
use Rattle.chf_core.specs.declared.command.Outcome.TheVariants as outcome
use Rattle.chf_core.specs.declared.refusal.ChfRefusal.TheVariants.{SessionExists, SessionClosed, SequencePassed, UnknownReference}
use Rattle.chf_core.specs.declared.decision.Verdict.{Verdict}
use Rattle.chf_core.specs.declared.decision.Verdict.TheVariants.{Refused, Fresh}
use Rattle.chf_core.specs.declared.session.Session.{Session}
use Rattle.chf_core.specs.declared.key.Key.{Key}
use Rattle.chf_core.specs.declared.kept_request.KeptRequest.{KeptRequest}
use Rattle.chf_core.specs.Money.{failover_in, user_unknown}
use Rattle.chf_core.specs.Decisions.{last_of, at_kept, same_row, decide_subscriber, decide_topup, decide_counted, decide_subscribe, decide_modify, decide_unsubscribe, decide_first}
use Rattle.chf_core.specs.Spending.{counters_in, spent_on, status_by}
use Rattle.chf_core.specs.State.{State, at_text, account_named, account_of, account_for, named_by, key_of, place_of, kept_at}
use Rattle.chf_core.specs.CommandMoves.{target_of, rating_of, infos_for}

-- ---- the first reply

-- the request's number and time stamp, the mark of failover, and what is said of the rating groups (TS 32.291,
-- 6.1.6.2.1.6)
abbrev pub answer_of : State → Request → Answer
answer_of s q = record {
  number = q.number;
  stamp = q.stamp;
  failover = failover_in s.setup;
  handling = None;
  triggers = [];
  units = infos_for (rating_of s q) q s.money (target_of s q);
}

-- a Create opens a session under the next reference, where its subscriber has an account (TS 32.291, 6.1.3.3)
abbrev pub created : State → Request → Option ℕ → Reply
created s q None = user_unknown
created s q (Some account) = reply.Created (length s.sessions + 1) (answer_of s q)

-- the reply to each operation
abbrev pub reply_by : Operation → State → Request → Reply
reply_by Create s q = created s q (account_for s q.subscriber)
reply_by (Update reference) s q = reply.Updated (answer_of s q)
reply_by (Release reference) s q = reply.Released

-- the first reply to a request
abbrev pub first_reply : State → Request → Reply
first_reply s q = reply_by q.operation s q

-- ---- what a subscription to spending limits is told

-- what was spent on the account of a subscriber, by its latest row (this product's own)
abbrev pub spent_of : State → List ℕ → ℕ
spent_of s supi = spent_on s.money (account_of s supi)

-- the statuses that a subscription with a context is told (TS 29.594, 4.2.2.2)
abbrev pub status_for : State → SpendContext → SpendStatus
status_for s context = status_by (counters_in s.setup) (spent_of s context.supi) context

-- what a command comes to
abbrev pub outcome_of : State → Command → Outcome
outcome_of s (Charge q) = outcome.Charged (first_reply s q)
outcome_of s (Subscribe context) = outcome.Spending (length s.watched.contexts + 1) (status_for s context)
outcome_of s (Modify id context) = outcome.Spending id (status_for s context)
outcome_of s (Unsubscribe id) = outcome.Removed
outcome_of s other = outcome.Done

-- ---- the decision on a request

-- whether what is kept has the content of a request
abbrev pub is_repeat : Request → Option KeptRequest → Bool
is_repeat q None = false
is_repeat q (Some r) = same_content r.request q

-- a request that is fresh gets its first reply
abbrev pub fresh_charge : State → Request → Verdict
fresh_charge s q = Fresh (outcome.Charged (first_reply s q))

-- a Create under a new key is fresh, unless its session is there
abbrev pub at_new_create : State → Request → Option Session → Verdict
at_new_create s q None = fresh_charge s q
at_new_create s q (Some z) = Refused SessionExists

-- an Update or Release under a new key is fresh where its session is open and its number above the last one
abbrev pub at_new_later : State → Request → Option Session → Verdict
at_new_later s q None = Refused UnknownReference
at_new_later s q (Some z) =
    if nat_le q.number z.last then Refused (SequencePassed z.last)
    else (if z.is_open then fresh_charge s q else Refused (SessionClosed z.last))

-- under a new key, by the operation
abbrev pub at_new : Operation → State → Request → Option Session → Verdict
at_new Create s q z = at_new_create s q z
at_new (Update reference) s q z = at_new_later s q z
at_new (Release reference) s q z = at_new_later s q z

-- under a key with this place, or with none
abbrev pub at_place : State → Request → Option Session → Option ℕ → Verdict
at_place s q z None = at_new q.operation s q z
at_place s q z (Some place) = at_kept place (last_of z) (is_repeat q (kept_at s place))

-- a request without a key is of no session
abbrev pub at_key : State → Request → Option Key → Verdict
at_key s q None = Refused UnknownReference
at_key s q (Some k) = at_place s q (named_by q.operation s q) (place_of s k)

-- ---- the decision on a command
abbrev pub decision : State → Command → Verdict
decision s (Setup setup) = Fresh outcome.Done
decision s (Charge q) = at_key s q (key_of s q)
decision s (Subscriber supi account barred) = decide_subscriber (same_row account barred (at_text s.subscribers supi))
decision s (TopUp id account amount) = decide_topup account amount (account_named s account) (at_text s.topups id)
decision s (Expire moment) = decide_counted (count_ending s.money.reservations (Until moment))
decision s (CloseRecords moment) = decide_counted (closable s.book.sessions)
decision s (Subscribe context) =
    decide_subscribe (at_text s.subscribers context.supi) (are_known (counters_in s.setup) context.counters)
    (outcome_of s (Subscribe context))
decision s (Modify id context) =
    decide_modify (context_of s.watched.contexts id) context.supi (are_known (counters_in s.setup) context.counters)
    (outcome_of s (Modify id context))
decision s (Unsubscribe id) = decide_unsubscribe (context_of s.watched.contexts id)
decision s (NoticeSent id number) = decide_first (is_first s.watched id number)
