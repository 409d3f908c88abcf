-- What a fresh command comes to.
use Rattle.std.proofs.Common.{◌≡◌, ◌==◌, ◌&&◌, ℕ, ◌+◌, nat_le, Bool, true, false, cond, List, length, Option, Some, None}
use Rattle.units.specs.declared.request.Operation.{Operation}
use Rattle.units.specs.declared.request.Operation.TheVariants.{Create, Update, Release}
use Rattle.units.specs.declared.request.Request.{Request}
use Rattle.accounts.specs.Endings.{count_ending, Until}
use Rattle.records.specs.Book.{closable}
use Rattle.chf_core.specs.declared.command.Command.{Command}
use Rattle.chf_core.specs.declared.command.Command.TheVariants.{Setup, Charge, Subscriber, TopUp, Expire, CloseRecords, Subscribe, Modify, Unsubscribe, NoticeSent}
use Rattle.chf_core.specs.declared.command.Outcome.{Outcome}
use Rattle.chf_core.specs.declared.command.Outcome.TheVariants.{Charged, Done, Spending, Removed}
use Rattle.chf_core.specs.declared.decision.Verdict.TheVariants.{Fresh, Refused, Known}
use Rattle.chf_core.specs.declared.refusal.ChfRefusal.TheVariants.{SessionClosed, SequencePassed, TopUpDiffers, WrongSupi}
use Rattle.chf_core.specs.declared.session.Session.{Session}
use Rattle.chf_core.specs.declared.key.Key.{Key}
use Rattle.chf_core.specs.declared.subscription.Sum.{Sum}
use Rattle.chf_core.specs.declared.subscription.Subscription.{Subscription}
use Rattle.units.specs.declared.spending.SpendContext.{SpendContext}
use Rattle.counters.specs.Subscriptions.{context_of}
use Rattle.counters.specs.Watching.{are_known}
use Rattle.notices.specs.Watched.{is_first}
use Rattle.chf_core.specs.Spending.{counters_in, status_for}
use Rattle.chf_core.specs.Watched.{watched, contexts}
use Rattle.chf_core.specs.Operator.{name_eq, setup_of, subscription_of, account_number, topup_of}
use Rattle.chf_core.specs.Sessions.{named_by}
use Rattle.chf_core.specs.Keys.{key_of, place_of, command_at, is_repeat}
use Rattle.chf_core.specs.Money.{money, first_reply}
use Rattle.chf_core.specs.Filed.{book}
use Rattle.chf_core.specs.Decisions.{decision, at_key, at_place, at_new, at_new_create, at_new_later, at_kept, last_of, decide_subscriber, decide_again, decide_topup, decide_counted, same_row, decide_known, decide_subscribe, decide_modify, decide_unsubscribe, decide_first}
use Rattle.chf_core.specs.Outcomes.{outcome_of}

module _ (a : List Command) (q : Request) (o : Outcome) where
  of_create : (s : Option Session) → at_new_create a q s ≡ Fresh o → o ≡ Charged (first_reply a q)
  of_create None e = cc
  of_create (Some s) e = absurd (cc)

  of_later : (s : Option Session) → at_new_later a q s ≡ Fresh o → o ≡ Charged (first_reply a q)
  of_later None e = absurd (cc)
  of_later (Some s) e = elim (nat_le q.number s.last) as (λ b. cond b (Refused (SequencePassed s.last)) (cond s.is_open (Fresh (Charged (first_reply a q))) (Refused (SessionClosed s.last))) ≡ Fresh o → o ≡ Charged (first_reply a q)) [
    | true ↦ λ w. absurd (cc)
    | false ↦ elim s.is_open as (λ b. cond b (Fresh (Charged (first_reply a q))) (Refused (SessionClosed s.last)) ≡ Fresh o → o ≡ Charged (first_reply a q)) [ true ↦ λ w. cc | false ↦ λ w. absurd (cc) ]
  ] e

  of_new : (op : Operation) (s : Option Session) → at_new op a q s ≡ Fresh o → o ≡ Charged (first_reply a q)
  of_new Create s e = of_create s e
  of_new (Update r) s e = of_later s e
  of_new (Release r) s e = of_later s e

  of_kept : (i last : ℕ) (b : Bool) → at_kept i last b ≡ Fresh o → o ≡ Charged (first_reply a q)
  of_kept i last true e = absurd (cc)
  of_kept i last false e = absurd (cc)

  of_place : (s : Option Session) (p : Option ℕ) → at_place a q s p ≡ Fresh o → o ≡ Charged (first_reply a q)
  of_place s None e = of_new q.operation s e
  of_place s (Some i) e = of_kept i (last_of s) (is_repeat q (command_at a i)) e

  of_key : (k : Option Key) → at_key a q k ≡ Fresh o → o ≡ Charged (first_reply a q)
  of_key None e = absurd (cc)
  of_key (Some k) e = of_place (named_by q.operation a q) (place_of a k) e

  pub fresh_request : decision a (Charge q) ≡ Fresh o → o ≡ Charged (first_reply a q)
  fresh_request e = of_key (key_of a q) e

module _ (o : Outcome) where
  of_row : (b : Bool) → decide_subscriber b ≡ Fresh o → o ≡ Done
  of_row true e = absurd (cc)
  of_row false e = cc

  of_again : (name : List ℕ) (x : ℕ) (s : Option Sum) → decide_again name x s ≡ Fresh o → o ≡ Done
  of_again name x None e = cc
  of_again name x (Some s) e = elim (name_eq s.account name && s.amount == x) as (λ b. cond b Known (Refused TopUpDiffers) ≡ Fresh o → o ≡ Done) [ true ↦ λ w. absurd (cc) | false ↦ λ w. absurd (cc) ] e

  of_topup : (name : List ℕ) (x : ℕ) (n : Option ℕ) (s : Option Sum) → decide_topup name x n s ≡ Fresh o → o ≡ Done
  of_topup name x None s e = absurd (cc)
  of_topup name x (Some n) s e = of_again name x s e

  of_counted : (n : ℕ) → decide_counted n ≡ Fresh o → o ≡ Done
  of_counted n e = elim (n == 0) as (λ b. cond b Known (Fresh Done) ≡ Fresh o → o ≡ Done) [ true ↦ λ w. absurd (cc) | false ↦ λ w. cc ] e

module _ (o told : Outcome) where
  of_known : (b : Bool) → decide_known b told ≡ Fresh o → o ≡ told
  of_known true e = cc
  of_known false e = absurd (cc)

  of_subscribe : (row : Option Subscription) (b : Bool) → decide_subscribe row b told ≡ Fresh o → o ≡ told
  of_subscribe None b e = absurd (cc)
  of_subscribe (Some row) b e = of_known b e

  of_modify : (last : Option SpendContext) (supi : List ℕ) (b : Bool) → decide_modify last supi b told ≡ Fresh o → o ≡ told
  of_modify None supi b e = absurd (cc)
  of_modify (Some last) supi b e = elim (name_eq last.supi supi) as (λ s. cond s (decide_known b told) (Refused WrongSupi) ≡ Fresh o → o ≡ told) [ true ↦ λ w. of_known b w | false ↦ λ w. absurd (cc) ] e

of_unsubscribe : (o : Outcome) (last : Option SpendContext) → decide_unsubscribe last ≡ Fresh o → o ≡ Removed
of_unsubscribe o None e = absurd (cc)
of_unsubscribe o (Some last) e = cc

of_first : (o : Outcome) (b : Bool) → decide_first b ≡ Fresh o → o ≡ Done
of_first o true e = cc
of_first o false e = absurd (cc)

pub fresh_is : (a : List Command) (c : Command) (o : Outcome) → decision a c ≡ Fresh o → o ≡ outcome_of a c
fresh_is a (Setup setup) o e = cc
fresh_is a (Charge q) o e = fresh_request a q o e
fresh_is a (Subscriber supi account barred) o e = of_row o (same_row account barred (subscription_of a supi)) e
fresh_is a (TopUp id account amount) o e = of_topup o account amount (account_number a account) (topup_of a id) e
fresh_is a (Expire moment) o e = of_counted o (count_ending (money a).reservations (Until moment)) e
fresh_is a (CloseRecords moment) o e = of_counted o (closable (book a).sessions) e
fresh_is a (Subscribe context) o e =
    of_subscribe o (Spending (length (contexts a) + 1) (status_for a context)) (subscription_of a context.supi) (are_known (counters_in (setup_of a)) context.counters) e
fresh_is a (Modify id context) o e =
    of_modify o (Spending id (status_for a context)) (context_of (contexts a) id) context.supi (are_known (counters_in (setup_of a)) context.counters) e
fresh_is a (Unsubscribe id) o e = of_unsubscribe o (context_of (contexts a) id) e
fresh_is a (NoticeSent id number) o e = of_first o (is_first (watched a) id number) e
