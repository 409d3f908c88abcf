-- What is decided on a command after a list of commands, the newest first: the order of checks (TS 32.290, 5.3.2; the order is this product's own).
use Rattle.std.specs.Prelude.{ℕ, ◌+◌, ◌==◌, ◌&&◌, nat_le, Bool, true, false, if◌then◌else◌, List, length, Option, Some, None}
use Rattle.std.specs.Cmp.Lexicographic.{pointwise}
use Rattle.std.specs.Prelude.{nat_eq}
use Rattle.units.specs.declared.request.Operation.{Operation}
use Rattle.units.specs.declared.request.Operation.TheVariants.{Create, Update, Release}
use Rattle.units.specs.declared.request.Request.{Request}
use Rattle.units.specs.declared.spending.SpendContext.{SpendContext}
use Rattle.accounts.specs.Endings.{count_ending, Until}
use Rattle.records.specs.Book.{closable}
use Rattle.counters.specs.Subscriptions.{context_of}
use Rattle.counters.specs.Watching.{are_known}
use Rattle.notices.specs.Watched.{is_first}
use Rattle.chf_core.specs.declared.command.Command.{Command}
use Rattle.chf_core.specs.declared.command.Command.TheVariants.{Setup, Charge, Subscriber, TopUp, Expire, CloseRecords, Subscribe, Modify, Unsubscribe, NoticeSent}
use Rattle.chf_core.specs.declared.command.Outcome.{Outcome}
use Rattle.chf_core.specs.declared.command.Outcome.TheVariants as outcome
use Rattle.chf_core.specs.declared.refusal.ChfRefusal.TheVariants.{UnknownAccount, SessionExists, SessionClosed, SequencePassed, UnknownReference, TopUpDiffers, WrongSupi, UnknownCounter, UnknownSubscription, UserUnknown}
use Rattle.chf_core.specs.declared.decision.Verdict.{Verdict}
use Rattle.chf_core.specs.declared.decision.Verdict.TheVariants.{Kept, Known, Refused, Fresh}
use Rattle.chf_core.specs.declared.session.Session.{Session}
use Rattle.chf_core.specs.declared.key.Key.{Key}
use Rattle.chf_core.specs.declared.subscription.Subscription.{Subscription}
use Rattle.chf_core.specs.declared.subscription.Sum.{Sum}
use Rattle.chf_core.specs.Operator.{name_eq, setup_of, subscription_of, account_number, topup_of}
use Rattle.chf_core.specs.Sessions.{named_by}
use Rattle.chf_core.specs.Keys.{key_of, place_of, command_at, is_repeat}
use Rattle.chf_core.specs.Money.{money, first_reply}
use Rattle.chf_core.specs.Filed.{book}
use Rattle.chf_core.specs.Spending.{counters_in, status_for}
use Rattle.chf_core.specs.Watched.{watched, contexts}

-- whether a verdict finds a command fresh
abbrev pub is_fresh : Verdict → Bool
is_fresh (Fresh o) = true
is_fresh verdict = false

-- a session's last accepted number, 0 where it does not exist
abbrev pub last_of : Option Session → ℕ
last_of None = 0
last_of (Some s) = s.last

-- under a key that is kept: its first reply, or the number has passed
abbrev pub at_kept : ℕ → ℕ → Bool → Verdict
at_kept place last true = Kept place
at_kept place last false = Refused (SequencePassed last)

-- a request that is new comes to its first reply
abbrev pub fresh_charge : List Command → Request → Verdict
fresh_charge commands q = Fresh (outcome.Charged (first_reply commands q))

-- a Create under a new key
abbrev pub at_new_create : List Command → Request → Option Session → Verdict
at_new_create commands q None = fresh_charge commands q
at_new_create commands q (Some s) = Refused SessionExists

-- an Update or Release under a new key
abbrev pub at_new_later : List Command → Request → Option Session → Verdict
at_new_later commands q None = Refused UnknownReference
at_new_later commands q (Some s) =
    if nat_le q.number s.last then Refused (SequencePassed s.last) else (if s.is_open then fresh_charge commands q else Refused (SessionClosed s.last))

-- a request under a new key, by its operation
abbrev pub at_new : Operation → List Command → Request → Option Session → Verdict
at_new Create commands q s = at_new_create commands q s
at_new (Update reference) commands q s = at_new_later commands q s
at_new (Release reference) commands q s = at_new_later commands q s

-- where the key has this place, or none
abbrev pub at_place : List Command → Request → Option Session → Option ℕ → Verdict
at_place commands q s None = at_new q.operation commands q s
at_place commands q s (Some place) = at_kept place (last_of s) (is_repeat q (command_at commands place))

-- an Update or Release whose reference no session of its consumer has
abbrev pub at_key : List Command → Request → Option Key → Verdict
at_key commands q None = Refused UnknownReference
at_key commands q (Some k) = at_place commands q (named_by q.operation commands q) (place_of commands k)

-- a subscriber's row that is its latest one changes nothing
abbrev pub same_row : List ℕ → List ℕ → Option Subscription → Bool
same_row account barred None = false
same_row account barred (Some s) = name_eq s.account account && pointwise nat_eq s.barred barred

-- a subscriber's row that says what the latest one says changes nothing
abbrev pub decide_subscriber : Bool → Verdict
decide_subscriber true = Known
decide_subscriber false = Fresh outcome.Done

-- a top-up under an id that stands
abbrev pub decide_again : List ℕ → ℕ → Option Sum → Verdict
decide_again account amount None = Fresh outcome.Done
decide_again account amount (Some s) = if name_eq s.account account && s.amount == amount then Known else Refused TopUpDiffers

-- a top-up of an unknown account is refused
abbrev pub decide_topup : List ℕ → ℕ → Option ℕ → Option Sum → Verdict
decide_topup account amount None sum = Refused UnknownAccount
decide_topup account amount (Some number) sum = decide_again account amount sum

-- a command that ends so many quotas or records changes nothing where there are none
abbrev pub decide_counted : ℕ → Verdict
decide_counted count = if count == 0 then Known else Fresh outcome.Done

-- a subscription that names a policy counter that is not one of the setup is refused (TS 29.594, 4.2.2.2)
abbrev pub decide_known : Bool → Outcome → Verdict
decide_known true told = Fresh told
decide_known false told = Refused UnknownCounter

-- a subscription to the spending limits of a subscriber that no row names is refused first (TS 29.594, 4.2.2.2)
abbrev pub decide_subscribe : Option Subscription → Bool → Outcome → Verdict
decide_subscribe None known told = Refused UserUnknown
decide_subscribe (Some row) known told = decide_known known told

-- another context under a number that no live subscription has is refused first, then one of another subscriber (TS 29.594, 4.2.2.3)
abbrev pub decide_modify : Option SpendContext → List ℕ → Bool → Outcome → Verdict
decide_modify None supi known told = Refused UnknownSubscription
decide_modify (Some last) supi known told = if name_eq last.supi supi then decide_known known told else Refused WrongSupi

-- only a live subscription can end (TS 29.594, 4.2.3)
abbrev pub decide_unsubscribe : Option SpendContext → Verdict
decide_unsubscribe None = Refused UnknownSubscription
decide_unsubscribe (Some last) = Fresh outcome.Removed

-- only the first notice of a subscription that was not sent yet can be sent (TS 29.594, 4.2.4; this product's own)
abbrev pub decide_first : Bool → Verdict
decide_first true = Fresh outcome.Done
decide_first false = Known

-- the decision on a command
abbrev pub decision : List Command → Command → Verdict
decision commands (Setup setup) = Fresh outcome.Done
decision commands (Charge q) = at_key commands q (key_of commands q)
decision commands (Subscriber supi account barred) = decide_subscriber (same_row account barred (subscription_of commands supi))
decision commands (TopUp id account amount) = decide_topup account amount (account_number commands account) (topup_of commands id)
decision commands (Expire moment) = decide_counted (count_ending (money commands).reservations (Until moment))
decision commands (CloseRecords moment) = decide_counted (closable (book commands).sessions)
decision commands (Subscribe context) =
    decide_subscribe (subscription_of commands context.supi) (are_known (counters_in (setup_of commands)) context.counters)
    (outcome.Spending (length (contexts commands) + 1) (status_for commands context))
decision commands (Modify id context) =
    decide_modify (context_of (contexts commands) id) context.supi (are_known (counters_in (setup_of commands)) context.counters)
    (outcome.Spending id (status_for commands context))
decision commands (Unsubscribe id) = decide_unsubscribe (context_of (contexts commands) id)
decision commands (NoticeSent id number) = decide_first (is_first (watched commands) id number)
