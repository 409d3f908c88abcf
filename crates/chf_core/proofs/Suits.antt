-- Each verdict suits its command.
use Rattle.std.proofs.Common.{◌≡◌, ◌==◌, ◌&&◌, ℕ, ◌+◌, nat_le, Bool, true, false, cond, List, length, Option, Some, None, refl, ap, ◌∙◌}
use Rattle.units.specs.declared.request.Operation.{Operation}
use Rattle.units.specs.declared.request.Operation.TheVariants.{Create, Update, Release}
use Rattle.units.specs.declared.request.Request.{Request}
use Rattle.accounts.specs.Endings.{count_ending, Until}
use Rattle.records.specs.Book.{closable}
use Rattle.chf_core.specs.declared.command.Command.{Command}
use Rattle.chf_core.specs.declared.command.Command.TheVariants.{Setup, Charge, Subscriber, TopUp, Expire, CloseRecords, Subscribe, Modify, Unsubscribe, NoticeSent}
use Rattle.chf_core.specs.declared.command.Outcome.TheVariants.{Charged, Done, Spending, Removed}
use Rattle.chf_core.specs.declared.refusal.ChfRefusal.TheVariants.{SessionClosed, SequencePassed, TopUpDiffers, WrongSupi}
use Rattle.chf_core.specs.declared.decision.Verdict.TheVariants.{Known, Refused, Fresh}
use Rattle.chf_core.specs.declared.session.Session.{Session}
use Rattle.chf_core.specs.declared.subscription.Sum.{Sum}
use Rattle.chf_core.specs.declared.subscription.Subscription.{Subscription}
use Rattle.units.specs.declared.spending.SpendContext.{SpendContext}
use Rattle.units.specs.declared.spending.SpendStatus.{SpendStatus}
use Rattle.counters.specs.Subscriptions.{context_of}
use Rattle.counters.specs.Watching.{are_known}
use Rattle.notices.specs.Watched.{is_first}
use Rattle.chf_core.specs.declared.refusal.ChfRefusal.{ChfRefusal}
use Rattle.chf_core.specs.declared.refusal.ChfRefusal.TheVariants as refusal
use Rattle.chf_core.specs.Spending.{counters_in, status_for}
use Rattle.chf_core.specs.Watched.{watched, contexts}
use Rattle.chf_core.specs.declared.key.Key.{Key}
use Rattle.chf_core.specs.Operator.{name_eq, setup_of, subscription_of, account_number, topup_of}
use Rattle.chf_core.specs.Sessions.{named_by}
use Rattle.chf_core.specs.Keys.{key_of, place_of, command_at, is_repeat}
use Rattle.chf_core.specs.Money.{money, first_reply}
use Rattle.chf_core.specs.Filed.{book}
use Rattle.chf_core.specs.Decisions.{decision, at_key, at_place, at_new, at_new_create, at_new_later, at_kept, last_of, decide_subscriber, decide_again, decide_topup, same_row, decide_known, decide_subscribe, decide_modify, decide_unsubscribe, decide_first}
use Rattle.chf_core.specs.Verdicts.{IsOfRequest, IsOfOperator, IsOfCommand, IsOfSpending, IsOfUnsubscribe, RefusesSubscribe, RefusesModify}
use Rattle.chf_core.proofs.FirstReplies.{first_replies}

module _ (a : List Command) (q : Request) where
  later_suits : (s : Option Session) → IsOfRequest a (at_new_later a q s)
  later_suits None = tt
  later_suits (Some s) = elim (nat_le q.number s.last) as (λ b. IsOfRequest a (cond b (Refused (SequencePassed s.last)) (cond s.is_open (Fresh (Charged (first_reply a q))) (Refused (SessionClosed s.last))))) [
    | true ↦ tt
    | false ↦ elim s.is_open as (λ b. IsOfRequest a (cond b (Fresh (Charged (first_reply a q))) (Refused (SessionClosed s.last)))) [ true ↦ (first_reply a q, refl) | false ↦ tt ]
  ]

  create_suits : (s : Option Session) → IsOfRequest a (at_new_create a q s)
  create_suits None = (first_reply a q, refl)
  create_suits (Some s) = tt

  new_suits : (o : Operation) (s : Option Session) → IsOfRequest a (at_new o a q s)
  new_suits Create s = create_suits s
  new_suits (Update r) s = later_suits s
  new_suits (Release r) s = later_suits s

  pub request_suits : IsOfRequest a (decision a (Charge q))
  request_suits = by_key (key_of a q) refl
    where
      s : Option Session
      s = named_by q.operation a q

      by_repeat : (k : Key) (place : ℕ) (b : Bool) → key_of a q ≡ Some k → place_of a k ≡ Some place → is_repeat q (command_at a place) ≡ b → IsOfRequest a (at_kept place (last_of s) b)
      by_repeat k place true ek ep eb =
          let h = first_replies a q place (ap (at_key a q) ek ∙ ap (at_place a q s) ep ∙ ap (at_kept place (last_of s)) eb) in
          (h.reply, h.is_kept)
      by_repeat k place false ek ep eb = tt

      by_place : (k : Key) (o : Option ℕ) → key_of a q ≡ Some k → place_of a k ≡ o → IsOfRequest a (at_place a q s o)
      by_place k None ek ep = new_suits q.operation s
      by_place k (Some place) ek ep = by_repeat k place (is_repeat q (command_at a place)) ek ep refl

      by_key : (o : Option Key) → key_of a q ≡ o → IsOfRequest a (at_key a q o)
      by_key None ek = tt
      by_key (Some k) ek = by_place k (place_of a k) ek refl

again_suits : (account : List ℕ) (amount : ℕ) (o : Option Sum) → IsOfOperator (decide_again account amount o)
again_suits account amount None = refl
again_suits account amount (Some s) = elim (name_eq s.account account && s.amount == amount) as (λ b. IsOfOperator (cond b Known (Refused TopUpDiffers))) [ true ↦ tt | false ↦ tt ]

-- a call on a subscription that is told a number and statuses
module _ (id : ℕ) (told : SpendStatus) where
  known_suits : (Refuses : ChfRefusal → Type 0) (b : Bool) → Refuses refusal.UnknownCounter → IsOfSpending Refuses (decide_known b (Spending id told))
  known_suits Refuses true h = (id, (told, refl))
  known_suits Refuses false h = h

  subscribe_suits : (row : Option Subscription) (b : Bool) → IsOfSpending RefusesSubscribe (decide_subscribe row b (Spending id told))
  subscribe_suits None b = tt
  subscribe_suits (Some row) b = known_suits RefusesSubscribe b tt

  modify_suits : (last : Option SpendContext) (supi : List ℕ) (b : Bool) → IsOfSpending RefusesModify (decide_modify last supi b (Spending id told))
  modify_suits None supi b = tt
  modify_suits (Some last) supi b = elim (name_eq last.supi supi) as (λ s. IsOfSpending RefusesModify (cond s (decide_known b (Spending id told)) (Refused WrongSupi))) [ true ↦ known_suits RefusesModify b tt | false ↦ tt ]

unsubscribe_suits : (last : Option SpendContext) → IsOfUnsubscribe (decide_unsubscribe last)
unsubscribe_suits None = tt
unsubscribe_suits (Some last) = refl

pub suits : (commands : List Command) (c : Command) → IsOfCommand commands c (decision commands c)
suits commands (Setup setup) = refl
suits commands (Charge q) = request_suits commands q
suits commands (Subscriber supi account barred) = by_test (same_row account barred (subscription_of commands supi))
  where
    by_test : (b : Bool) → IsOfOperator (decide_subscriber b)
    by_test true = tt
    by_test false = refl
suits commands (TopUp id account amount) = by_number (account_number commands account)
  where
    by_number : (o : Option ℕ) → IsOfOperator (decide_topup account amount o (topup_of commands id))
    by_number None = tt
    by_number (Some number) = again_suits account amount (topup_of commands id)
suits commands (Expire moment) = elim (count_ending (money commands).reservations (Until moment) == 0) as (λ b. IsOfOperator (cond b Known (Fresh Done))) [ true ↦ tt | false ↦ refl ]
suits commands (CloseRecords moment) = elim (closable (book commands).sessions == 0) as (λ b. IsOfOperator (cond b Known (Fresh Done))) [ true ↦ tt | false ↦ refl ]
suits commands (Subscribe context) =
    subscribe_suits (length (contexts commands) + 1) (status_for commands context) (subscription_of commands context.supi) (are_known (counters_in (setup_of commands)) context.counters)
suits commands (Modify id context) =
    modify_suits id (status_for commands context) (context_of (contexts commands) id) context.supi (are_known (counters_in (setup_of commands)) context.counters)
suits commands (Unsubscribe id) = unsubscribe_suits (context_of (contexts commands) id)
suits commands (NoticeSent id number) = elim (is_first (watched commands) id number) as (λ b. IsOfOperator (decide_first b)) [ true ↦ refl | false ↦ tt ]
