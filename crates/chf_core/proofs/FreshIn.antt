-- What a command that is fresh in a state comes to.
use Rattle.std.proofs.Common.{◌≡◌, ℕ, nat_le, Bool, true, false, cond, List, Option, Some, None, refl}
use mathlib.Core.Bool.{false≢true}
use Rattle.units.specs.declared.request.Operation.{Operation}
use Rattle.units.specs.declared.request.Operation.TheVariants.{Create, Update, Release}
use Rattle.units.specs.declared.request.Request.{Request}
use Rattle.accounts.specs.Endings.{count_ending, Until}
use Rattle.records.specs.Book.{closable}
use Rattle.chf_core.specs.declared.command.Command.{Command}
use Rattle.chf_core.specs.declared.command.Command.TheVariants.{Setup, Charge, Subscriber, TopUp, Expire, CloseRecords, Subscribe, Modify, Unsubscribe, NoticeSent}
use Rattle.chf_core.specs.declared.command.Outcome.TheVariants.{Done, Removed}
use Rattle.chf_core.specs.declared.decision.Verdict.{Verdict}
use Rattle.chf_core.specs.declared.decision.Verdict.TheVariants.{Fresh, Refused, Known}
use Rattle.chf_core.specs.declared.refusal.ChfRefusal.TheVariants.{SessionClosed, SequencePassed, TopUpDiffers, WrongSupi, UnknownCounter}
use Rattle.chf_core.specs.declared.session.Session.{Session}
use Rattle.chf_core.specs.declared.key.Key.{Key}
use Rattle.chf_core.specs.declared.subscription.Sum.{Sum}
use Rattle.chf_core.specs.declared.subscription.Subscription.{Subscription}
use Rattle.units.specs.declared.spending.SpendContext.{SpendContext}
use Rattle.counters.specs.Subscriptions.{context_of}
use Rattle.counters.specs.Watching.{are_known}
use Rattle.notices.specs.Watched.{is_first}
use Rattle.chf_core.specs.declared.command.Outcome.{Outcome}
use Rattle.chf_core.specs.Operator.{name_eq}
use Rattle.chf_core.specs.Spending.{counters_in}
use Rattle.chf_core.specs.Decisions.{is_fresh, last_of, at_kept, same_row, decide_subscriber, decide_again, decide_topup, decide_counted, decide_known, decide_subscribe, decide_modify, decide_unsubscribe, decide_first}
use Rattle.chf_core.specs.State.{State, at_text, account_named, named_by, key_of, place_of, kept_at}
use Rattle.chf_core.specs.Deciding.{outcome_of, is_repeat, fresh_charge, at_new_create, at_new_later, at_new, at_place, at_key, decision}

-- a verdict that is fresh comes to this outcome
abbrev Tells : Verdict → Verdict → Type 0
Tells fresh v = is_fresh v ≡ true → v ≡ fresh

of_create : (s : State) (q : Request) (o : Option Session) → Tells (fresh_charge s q) (at_new_create s q o)
of_create s q None e = refl
of_create s q (Some z) e = absurd (false≢true e)

later_by : (s : State) (q : Request) (z : Session) (b d : Bool) → Tells (fresh_charge s q) (cond b (Refused (SequencePassed z.last)) (cond d (fresh_charge s q) (Refused (SessionClosed z.last))))
later_by s q z true d e = absurd (false≢true e)
later_by s q z false true e = refl
later_by s q z false false e = absurd (false≢true e)

of_later : (s : State) (q : Request) (o : Option Session) → Tells (fresh_charge s q) (at_new_later s q o)
of_later s q None e = absurd (false≢true e)
of_later s q (Some z) e = later_by s q z (nat_le q.number z.last) z.is_open e

of_new : (op : Operation) (s : State) (q : Request) (o : Option Session) → Tells (fresh_charge s q) (at_new op s q o)
of_new Create s q o e = of_create s q o e
of_new (Update r) s q o e = of_later s q o e
of_new (Release r) s q o e = of_later s q o e

of_kept : (fresh : Verdict) (place last : ℕ) (b : Bool) → Tells fresh (at_kept place last b)
of_kept fresh place last true e = absurd (false≢true e)
of_kept fresh place last false e = absurd (false≢true e)

of_place : (s : State) (q : Request) (z : Option Session) (o : Option ℕ) → Tells (fresh_charge s q) (at_place s q z o)
of_place s q z None e = of_new q.operation s q z e
of_place s q z (Some place) e = of_kept (fresh_charge s q) place (last_of z) (is_repeat q (kept_at s place)) e

of_key : (s : State) (q : Request) (o : Option Key) → Tells (fresh_charge s q) (at_key s q o)
of_key s q None e = absurd (false≢true e)
of_key s q (Some k) e = of_place s q (named_by q.operation s q) (place_of s k) e

of_subscriber : (b : Bool) → Tells (Fresh Done) (decide_subscriber b)
of_subscriber true e = absurd (false≢true e)
of_subscriber false e = refl

again_by : (b : Bool) → Tells (Fresh Done) (cond b Known (Refused TopUpDiffers))
again_by true e = absurd (false≢true e)
again_by false e = absurd (false≢true e)

of_again : (account : List ℕ) (amount : ℕ) (o : Option Sum) → Tells (Fresh Done) (decide_again account amount o)
of_again account amount None e = refl
of_again account amount (Some t) e = again_by _ e

of_topup : (account : List ℕ) (amount : ℕ) (n : Option ℕ) (o : Option Sum) → Tells (Fresh Done) (decide_topup account amount n o)
of_topup account amount None o e = absurd (false≢true e)
of_topup account amount (Some n) o e = of_again account amount o e

of_counted : (n : ℕ) → Tells (Fresh Done) (decide_counted n)
of_counted n e = by _ e where
  by : (b : Bool) → Tells (Fresh Done) (cond b Known (Fresh Done))
  by true w = absurd (false≢true w)
  by false w = refl

of_known : (told : Outcome) (b : Bool) → Tells (Fresh told) (decide_known b told)
of_known told true e = refl
of_known told false e = absurd (false≢true e)

of_subscribe : (told : Outcome) (row : Option Subscription) (b : Bool) → Tells (Fresh told) (decide_subscribe row b told)
of_subscribe told None b e = absurd (false≢true e)
of_subscribe told (Some row) b e = of_known told b e

modify_by : (told : Outcome) (same b : Bool) → Tells (Fresh told) (cond same (decide_known b told) (Refused WrongSupi))
modify_by told true b e = of_known told b e
modify_by told false b e = absurd (false≢true e)

of_modify : (told : Outcome) (last : Option SpendContext) (supi : List ℕ) (b : Bool) → Tells (Fresh told) (decide_modify last supi b told)
of_modify told None supi b e = absurd (false≢true e)
of_modify told (Some last) supi b e = modify_by told (name_eq last.supi supi) b e

of_unsubscribe : (last : Option SpendContext) → Tells (Fresh Removed) (decide_unsubscribe last)
of_unsubscribe None e = absurd (false≢true e)
of_unsubscribe (Some last) e = refl

of_first : (b : Bool) → Tells (Fresh Done) (decide_first b)
of_first true e = refl
of_first false e = absurd (false≢true e)

-- so each command
pub fresh_in : (s : State) (c : Command) → Tells (Fresh (outcome_of s c)) (decision s c)
fresh_in s (Setup setup) e = refl
fresh_in s (Charge q) e = of_key s q (key_of s q) e
fresh_in s (Subscriber supi account barred) e = of_subscriber (same_row account barred (at_text s.subscribers supi)) e
fresh_in s (TopUp id account amount) e = of_topup account amount (account_named s account) (at_text s.topups id) e
fresh_in s (Expire moment) e = of_counted (count_ending s.money.reservations (Until moment)) e
fresh_in s (CloseRecords moment) e = of_counted (closable s.book.sessions) e
fresh_in s (Subscribe context) e =
    of_subscribe (outcome_of s (Subscribe context)) (at_text s.subscribers context.supi) (are_known (counters_in s.setup) context.counters) e
fresh_in s (Modify id context) e =
    of_modify (outcome_of s (Modify id context)) (context_of s.watched.contexts id) context.supi (are_known (counters_in s.setup) context.counters) e
fresh_in s (Unsubscribe id) e = of_unsubscribe (context_of s.watched.contexts id) e
fresh_in s (NoticeSent id number) e = of_first (is_first s.watched id number) e
