-- A command makes the notices that are to come of it, and no others.
use Rattle.std.proofs.Common.{◌≡◌, ◌==◌, ◌+◌, ℕ, zero, suc, Bool, true, false, cond, List, [], ◌∷◌, ◌++◌, length, get_or, Option, Some, None, option_to_list, refl, sym, ap, subst, ◌∙◌, arith}
use Rattle.std.specs.Option.{option_and_then}
use Rattle.std.proofs.lemmas.Bool.{eqb-true, eqb-false, ne_eqb, eq-eqb, and_right, and_from}
use Rattle.units.specs.declared.spending.SpendContext.{SpendContext}
use Rattle.units.specs.declared.spending.CounterStatus.{CounterStatus}
use Rattle.counters.specs.Subscriptions.{context_of}
use Rattle.counters.specs.Watching.{changes}
use Rattle.accounts.specs.Ledger.{State as Money}
use Rattle.notices.specs.declared.notice.Notice.{Notice}
use Rattle.notices.specs.Watching.{watches, watching}
use Rattle.notices.specs.Watched.{Watched}
use Rattle.notices.specs.Due.{made_of, notice_with, notice_by, notice_of, watching_for}
use Rattle.notices.specs.Steps.{Step, Spent, Moved, makes, of_subscription, AreNumberedFrom}
use Rattle.chf_core.specs.declared.command.Command.{Command}
use Rattle.chf_core.specs.declared.command.Command.TheVariants.{Charge, Subscriber, Subscribe}
use Rattle.chf_core.specs.declared.subscription.Subscription.{Subscription}
use Rattle.chf_core.specs.Operator.{name_eq, number_in, setup_of, account_names, subscription_of, account_of}
use Rattle.chf_core.specs.Money.{money, target_of}
use Rattle.chf_core.specs.MoneyLaws.{AccountsBalance, LedgerIsWhole}
use Rattle.chf_core.specs.Ledger.{ledger}
use Rattle.chf_core.specs.Spending.{counters_in, spent_on, spent_of}
use Rattle.chf_core.specs.Stepping.{number_for, spending, moving_to, subscribing, notices_by}
use Rattle.chf_core.specs.Watched.{step_in, contexts, watched}
use Rattle.chf_core.specs.After.{IsHistory}
use Rattle.chf_core.specs.Joined.{DecisionsAreJoined}
use Rattle.notice_laws.specs.Made.{made_by, made_in}
use Rattle.notice_laws.specs.Told.{told_by}
use Rattle.notice_laws.specs.Laws.{AllAreNumbered, ChangesAreTold}
use Rattle.notice_laws.proofs.Named.{same_name, number_of, own_row, other_row}
use Rattle.notice_laws.proofs.Picked.{is_in, watching_ascend, those_ascend, among_watching, picked, context_is}
use Rattle.notice_laws.proofs.OnAccounts.{IsOn, among, are_on}
use Rattle.notice_laws.proofs.Spent.{Target, charges_on, spent_kept, spent_elsewhere, quiet}

-- ---- a subscription that is not live

module _ (rows : List (List (List ℕ))) (w : Watched) (id : ℕ) (ended : context_of w.contexts id ≡ None) where
  none_of : (before after : ℕ) (t : Bool) → cond t (option_to_list (notice_of rows w before after id)) [] ≡ []
  none_of before after true = ap (λ o. option_to_list (notice_by rows id (made_of w id) before after o)) ended
  none_of before after false = refl

  none_made : (step : Step) → of_subscription id (makes rows w step) ≡ []
  none_made (Spent account before after) =
      picked rows w before after id 1 (watching w.accounts account) (watching_ascend w account)
      ∙ none_of before after (is_in id (watching w.accounts account))
  none_made (Moved supi from to before after) =
      picked rows w before after id 1 (watching_for w supi from) (those_ascend w supi from)
      ∙ none_of before after (is_in id (watching_for w supi from))
  none_made step = refl

  none_by : (o : Option Step) → of_subscription id (notices_by rows w o) ≡ []
  none_by None = refl
  none_by (Some step) = none_made step

-- ---- a live subscription

module _ (rows : List (List (List ℕ))) (w : Watched) (place k : ℕ) (context : SpendContext)
    (live : get_or w.contexts place None ≡ Some context) (on : get_or w.accounts place None ≡ Some k) where
  -- its notice once so much was spent, where so much was spent before
  abbrev telling : ℕ → ℕ → List Notice
  telling before after =
      option_to_list (notice_with (suc place) (made_of w (suc place)) context (changes rows context.counters before after))

  silent : (before after : ℕ) → after ≡ before → [] ≡ telling before after
  silent before after e = sym (ap option_to_list (quiet rows (suc place) (made_of w (suc place)) context before after e))

  its_notice : (before after : ℕ) → option_to_list (notice_of rows w before after (suc place)) ≡ telling before after
  its_notice before after =
      ap (λ o. option_to_list (notice_by rows (suc place) (made_of w (suc place)) before after o)) (context_is w.contexts place ∙ live)

  -- a request
  by_charge : (before after : Money) (o : Option Target)
      → (charges_on k o ≡ false → spent_on after (Some k) ≡ spent_on before (Some k))
      → of_subscription (suc place) (notices_by rows w (spending before after o))
      ≡ telling (spent_on before (Some k)) (spent_on after (Some k))
  by_charge before after None same = silent (spent_on before (Some k)) (spent_on after (Some k)) (same refl)
  by_charge before after (Some t) same =
      picked rows w (spent_on before (Some t.account)) (spent_on after (Some t.account)) (suc place) 1 (watching w.accounts t.account) (watching_ascend w t.account)
      ∙ ap (λ b. cond b (option_to_list (notice_of rows w (spent_on before (Some t.account)) (spent_on after (Some t.account)) (suc place))) [])
      (among_watching w t.account place ∙ ap (watches t.account) on)
      ∙ by (t.account == k) refl
    where
      by : (b : Bool) → (t.account == k) ≡ b
          → cond (k == t.account) (option_to_list (notice_of rows w (spent_on before (Some t.account)) (spent_on after (Some t.account)) (suc place))) []
          ≡ telling (spent_on before (Some k)) (spent_on after (Some k))
      by true e =
          let is = eqb-true t.account k e in
          ap (λ b. cond b (option_to_list (notice_of rows w (spent_on before (Some t.account)) (spent_on after (Some t.account)) (suc place))) [])
          (eq-eqb k t.account (sym is))
          ∙ its_notice (spent_on before (Some t.account)) (spent_on after (Some t.account))
          ∙ ap (λ j. telling (spent_on before (Some j)) (spent_on after (Some j))) is
      by false e =
          ap (λ b. cond b (option_to_list (notice_of rows w (spent_on before (Some t.account)) (spent_on after (Some t.account)) (suc place))) [])
          (ne_eqb k t.account (λ h. eqb-false t.account k e (sym h)))
          ∙ silent (spent_on before (Some k)) (spent_on after (Some k)) (same e)

  -- a row of its subscriber, and of another
  module _ (supi : List ℕ) where
    moves_own : (from to before after : ℕ) → name_eq supi context.supi ≡ true → from ≡ k
        → of_subscription (suc place) (makes rows w (Moved supi from to before after)) ≡ telling before after
    moves_own from to before after own is =
        picked rows w before after (suc place) 1 (watching_for w supi from) (those_ascend w supi from)
        ∙ ap (λ b. cond b (option_to_list (notice_of rows w before after (suc place))) [])
        (among rows w supi from place k context true live on own ∙ and_from (k == from) true (eq-eqb k from (sym is)) refl)
        ∙ its_notice before after

    moves_other : (from to before after : ℕ) → name_eq supi context.supi ≡ false
        → of_subscription (suc place) (makes rows w (Moved supi from to before after)) ≡ []
    moves_other from to before after other =
        picked rows w before after (suc place) 1 (watching_for w supi from) (those_ascend w supi from)
        ∙ ap (λ b. cond b (option_to_list (notice_of rows w before after (suc place))) [])
        (among rows w supi from place k context false live on other ∙ and_right (k == from) false refl)

    module _ (names : List (List ℕ)) (before after : Money) (account : List ℕ) where
      own_by : (from to : ℕ) (t : Bool) → (from == to) ≡ t → name_eq supi context.supi ≡ true → from ≡ k
          → spent_on after (Some to) ≡ spent_on before (Some to)
          → of_subscription (suc place) (notices_by rows w (cond t None (Some (Moved supi from to (spent_on before (Some from)) (spent_on after (Some to))))))
          ≡ telling (spent_on before (Some k)) (spent_on after (Some to))
      own_by from to true e own is same =
          silent (spent_on before (Some k)) (spent_on after (Some to))
          (same ∙ ap (λ j. spent_on before (Some j)) (sym (eqb-true from to e) ∙ is))
      own_by from to false e own is same =
          moves_own from to (spent_on before (Some from)) (spent_on after (Some to)) own is
          ∙ ap (λ j. telling (spent_on before (Some j)) (spent_on after (Some to))) is

      by_own_row : (o : Option Subscription) → name_eq supi context.supi ≡ true
          → option_and_then (λ r. number_in names r.account) o ≡ Some k
          → spent_on after (Some (number_for names account)) ≡ spent_on before (Some (number_for names account))
          → of_subscription (suc place) (notices_by rows w (moving_to names before after supi account o))
          ≡ telling (spent_on before (Some k)) (spent_on after (Some (number_for names account)))
      by_own_row None own is same = absurd (cc)
      by_own_row (Some row) own is same =
          own_by (number_for names row.account) (number_for names account) (number_for names row.account == number_for names account) refl own
          (number_of names row.account k is) same

      other_by : (from to : ℕ) (t : Bool) → name_eq supi context.supi ≡ false
          → of_subscription (suc place) (notices_by rows w (cond t None (Some (Moved supi from to (spent_on before (Some from)) (spent_on after (Some to)))))) ≡ []
      other_by from to true other = refl
      other_by from to false other = moves_other from to (spent_on before (Some from)) (spent_on after (Some to)) other

      by_other_row : (o : Option Subscription) → name_eq supi context.supi ≡ false
          → spent_on after (Some k) ≡ spent_on before (Some k)
          → of_subscription (suc place) (notices_by rows w (moving_to names before after supi account o))
          ≡ telling (spent_on before (Some k)) (spent_on after (Some k))
      by_other_row None other same = silent (spent_on before (Some k)) (spent_on after (Some k)) same
      by_other_row (Some row) other same =
          other_by (number_for names row.account) (number_for names account) (number_for names row.account == number_for names account) other
          ∙ silent (spent_on before (Some k)) (spent_on after (Some k)) same

-- a subscription that is made makes no notice
by_subscribe : (rows : List (List (List ℕ))) (w : Watched) (names : List (List ℕ)) (context : SpendContext) (o : Option Subscription)
    → notices_by rows w (subscribing names context o) ≡ []
by_subscribe rows w names context None = refl
by_subscribe rows w names context (Some row) = refl

-- ---- every command

-- the notice with so many before it that is to come of a command for a live subscription
abbrev counted_by : List Command → Command → ℕ → ℕ → SpendContext → List Notice
counted_by before c id made context =
    option_to_list (notice_with id made context
    (changes (counters_in (setup_of before)) context.counters (spent_of before context.supi) (spent_of (c ∷ before) context.supi)))

module _ (balance : AccountsBalance) (whole : LedgerIsWhole) (before : List Command) (place : ℕ) (context : SpendContext)
    (live : get_or (watched before).contexts place None ≡ Some context)
    (on : IsOn (watched before).accounts (account_of before) place context) where
  -- the sums are those of the account that it watches
  abbrev tells : ℕ → ℕ → List Notice
  tells = telling (counters_in (setup_of before)) (watched before) place on.account context live on.watches

  unspent : (c : Command) → ledger (c ∷ before) ≡ ledger before → account_of (c ∷ before) context.supi ≡ account_of before context.supi
      → [] ≡ counted_by before c (suc place) (made_of (watched before) (suc place)) context
  unspent c e f =
      silent (counters_in (setup_of before)) (watched before) place on.account context live on.watches
      (spent_of before context.supi) (spent_of (c ∷ before) context.supi)
      (ap (spent_on (money (c ∷ before))) (f ∙ on.named) ∙ spent_kept balance whole c before on.account e ∙ ap (spent_on (money before)) (sym on.named))

  told_live : (c : Command)
      → of_subscription (suc place) (made_by before c) ≡ counted_by before c (suc place) (made_of (watched before) (suc place)) context
  told_live (Charge q) =
      by_charge (counters_in (setup_of before)) (watched before) place on.account context live on.watches
      (money before) (money (Charge q ∷ before)) (target_of before q) (spent_elsewhere balance whole q before on.account)
      ∙ ap (λ o. tells (spent_on (money before) o) (spent_on (money (Charge q ∷ before)) o)) (sym on.named)
  told_live (Subscriber supi account barred) = by (name_eq supi context.supi) refl
    where
      by : (t : Bool) → name_eq supi context.supi ≡ t
          → of_subscription (suc place) (made_by before (Subscriber supi account barred))
          ≡ counted_by before (Subscriber supi account barred) (suc place) (made_of (watched before) (suc place)) context
      by true t =
          by_own_row (counters_in (setup_of before)) (watched before) place on.account context live on.watches supi
          (account_names before) (money before) (money (Subscriber supi account barred ∷ before)) account (subscription_of before supi) t
          (ap (account_of before) (same_name supi context.supi t) ∙ on.named)
          (spent_kept balance whole (Subscriber supi account barred) before (number_for (account_names before) account) refl)
          ∙ (λ i. tells (spent_on (money before) (sym on.named i))
          (spent_on (money (Subscriber supi account barred ∷ before)) (sym (own_row before supi account barred context.supi t) i)))
      by false t =
          by_other_row (counters_in (setup_of before)) (watched before) place on.account context live on.watches supi
          (account_names before) (money before) (money (Subscriber supi account barred ∷ before)) account (subscription_of before supi) t
          (spent_kept balance whole (Subscriber supi account barred) before on.account refl)
          ∙ (λ i. tells (spent_on (money before) (sym on.named i))
          (spent_on (money (Subscriber supi account barred ∷ before)) (sym (other_row before supi account barred context.supi on.account on.named t) i)))
  told_live (Subscribe other) =
      ap (of_subscription (suc place)) (by_subscribe (counters_in (setup_of before)) (watched before) (account_names before) other (subscription_of before other.supi))
      ∙ unspent (Subscribe other) refl refl
  told_live c = unspent c refl refl

-- ---- the number of a notice

last_number : (start : ℕ) (xs : List Notice) (n : Notice) → AreNumberedFrom start (xs ++ n ∷ []) → n.number ≡ start + length xs
last_number start [] n numbered = let here = numbered.0 in omega arith
last_number start (x ∷ xs) n numbered = let rest = last_number (suc start) xs n numbered.1 in omega arith

recounted : (xs ns : List Notice) (id made : ℕ) (context : SpendContext) (infos : List CounterStatus)
    → AreNumberedFrom 1 (xs ++ ns) → ns ≡ option_to_list (notice_with id made context infos)
    → ns ≡ option_to_list (notice_with id (length xs) context infos)
recounted xs ns id made context [] numbered e = e
recounted xs ns id made context (info ∷ infos) numbered e =
    let n : Notice = record { id = id; number = made + 1; notify = context.notify; status = record { supi = context.supi; infos = info ∷ infos } } in
    let number : made + 1 ≡ 1 + length xs = last_number 1 xs n (subst (λ (l : List Notice). AreNumberedFrom 1 (xs ++ l)) e numbered) in
    let count : made ≡ length xs = omega arith in
    e ∙ ap (λ k. option_to_list (notice_with id k context (info ∷ infos))) count

-- ---- the law

module _ (numbered : AllAreNumbered) (joined : DecisionsAreJoined) (balance : AccountsBalance) (whole : LedgerIsWhole) where
  told_at : (before : List Command) (c : Command) (id : ℕ) → IsHistory (c ∷ before)
      → (o : Option SpendContext) → context_of (contexts before) id ≡ o
      → of_subscription id (made_by before c) ≡ option_to_list (told_by before c id o)
  told_at before c id h None e = none_by (counters_in (setup_of before)) (watched before) id e (step_in before c)
  told_at before c zero h (Some context) e = absurd (cc)
  told_at before c (suc place) h (Some context) e =
      let live : get_or (watched before).contexts place None ≡ Some context = sym (context_is (contexts before) place) ∙ e in
      let on = (are_on joined before h.1.1).each place context live in
      recounted (made_in before (suc place)) (of_subscription (suc place) (made_by before c)) (suc place) (made_of (watched before) (suc place)) context
      (changes (counters_in (setup_of before)) context.counters (spent_of before context.supi) (spent_of (c ∷ before) context.supi))
      (numbered (c ∷ before) h (suc place)) (told_live balance whole before place context live on c)

  pub changes_are_told : ChangesAreTold
  changes_are_told = λ before c id h. told_at before c id h (context_of (contexts before) id) refl
