-- Each live subscription watches the account that the latest row of its subscriber names.
use Rattle.std.proofs.Common.{◌≡◌, ◌≢◌, ◌⊎◌, ◌==◌, ◌&&◌, ◌-◌, ℕ, zero, suc, Bool, true, false, cond, List, [], ◌∷◌, ◌++◌, length, get_or, Option, Some, None, refl, sym, ap, subst, ◌∙◌, inl, inr, length-append, arith}
use Rattle.std.proofs.Math.ListN.{set}
use Rattle.std.specs.Option.{option_and_then}
use Rattle.std.specs.Cmp.Lexicographic.{nat_list_eq_equiv}
use Rattle.std.proofs.lemmas.Bool.{eqb-true, eqb-false, eq-eqb, and_right, and_from}
use Rattle.std.proofs.lemmas.List.{length-set, get_or-set_same, get_or-set_other}
use Rattle.units.specs.declared.spending.SpendContext.{SpendContext}
use Rattle.counters.specs.Subscriptions.{context_of}
use Rattle.counters.specs.Watching.{are_known}
use Rattle.accounts.specs.Ledger.{State as Money}
use Rattle.notices.specs.declared.notice.Notice.{Notice}
use Rattle.notices.specs.Watching.{watches}
use Rattle.notices.specs.Watched.{Watched, posted, all_posted, moved_to}
use Rattle.notices.specs.Due.{is_of, watching_for}
use Rattle.notices.specs.Steps.{Step, Spent, Moved, makes}
use Rattle.chf_core.specs.declared.command.Command.{Command}
use Rattle.chf_core.specs.declared.command.Command.TheVariants.{Charge, Subscriber, Subscribe, Modify, Unsubscribe, NoticeSent}
use Rattle.chf_core.specs.declared.command.Outcome.{Outcome}
use Rattle.chf_core.specs.declared.command.Outcome.TheVariants as outcome
use Rattle.chf_core.specs.declared.decision.Verdict.TheVariants.{Refused, Fresh}
use Rattle.chf_core.specs.declared.refusal.ChfRefusal.TheVariants.{WrongSupi}
use Rattle.chf_core.specs.declared.subscription.Subscription.{Subscription}
use Rattle.chf_core.specs.Operator.{name_eq, number_in, setup_of, account_names, subscription_of, account_of}
use Rattle.chf_core.specs.Money.{money, target_of}
use Rattle.chf_core.specs.Decisions.{decide_known, decide_modify}
use Rattle.chf_core.specs.Spending.{counters_in, spent_on, status_for}
use Rattle.chf_core.specs.Stepping.{number_for, spending, moving, moving_to, subscribing, stepped}
use Rattle.chf_core.specs.Watched.{contexts, watched}
use Rattle.chf_core.specs.After.{IsHistory}
use Rattle.chf_core.specs.Joined.{DecisionsAreJoined}
use Rattle.notice_laws.proofs.Named.{same_name, same_some, number_of, account_is, other_row, own_row}
use Rattle.notice_laws.proofs.Spent.{Target}
use Rattle.notice_laws.proofs.Picked.{is_in, those_ascend, among_those, within, context_is, moved_at, moved_length}

-- a subscription watches the account of its subscriber
pub record IsOn (accounts : List (Option ℕ)) (of : List ℕ → Option ℕ) (place : ℕ) (context : SpendContext) : Type 0 where
  pub account : ℕ
  pub watches : get_or accounts place None ≡ Some account
  pub named : of context.supi ≡ Some account

-- so each live one does
pub record AreOn (contexts : List (Option SpendContext)) (accounts : List (Option ℕ)) (of : List ℕ → Option ℕ) : Type 0 where
  pub sizes : length accounts ≡ length contexts
  pub each : (place : ℕ) (context : SpendContext) → get_or contexts place None ≡ Some context → IsOn accounts of place context

-- ---- notices leave contexts and accounts as they are

posted_contexts : (w : Watched) (notices : List Notice) → (all_posted w notices).contexts ≡ w.contexts
posted_contexts w [] = refl
posted_contexts w (n ∷ notices) = posted_contexts (posted w n) notices

posted_accounts : (w : Watched) (notices : List Notice) → (all_posted w notices).accounts ≡ w.accounts
posted_accounts w [] = refl
posted_accounts w (n ∷ notices) = posted_accounts (posted w n) notices

-- so does a request
on_charge : (rows : List (List (List ℕ))) (w : Watched) (before after : Money) (o : Option Target) (of : List ℕ → Option ℕ)
    → AreOn w.contexts w.accounts of
    → AreOn (stepped rows w (spending before after o)).contexts (stepped rows w (spending before after o)).accounts of
on_charge rows w before after None of on = on
on_charge rows w before after (Some t) of on =
    let notices = makes rows w (Spent t.account (spent_on before (Some t.account)) (spent_on after (Some t.account))) in
    subst (λ (cs : List (Option SpendContext)). AreOn cs (all_posted w notices).accounts of) (sym (posted_contexts w notices))
    (subst (λ (accounts : List (Option ℕ)). AreOn w.contexts accounts of) (sym (posted_accounts w notices)) on)

-- ---- one subscription more

-- what stands at a place once there is one more: what stood there, or the new one
one_more : (contexts : List (Option SpendContext)) (accounts : List (Option ℕ)) (new : SpendContext) (account place : ℕ) (context : SpendContext)
    → length accounts ≡ length contexts → get_or (contexts ++ Some new ∷ []) place None ≡ Some context
    → ((new ≡ context) × (get_or (accounts ++ Some account ∷ []) place None ≡ Some account))
    ⊎ ((get_or contexts place None ≡ Some context) × (get_or (accounts ++ Some account ∷ []) place None ≡ get_or accounts place None))
one_more [] [] new account zero context same e = inl (same_some new context e, refl)
one_more [] [] new account (suc place) context same e = absurd (cc)
one_more [] (a ∷ accounts) new account place context same e = absurd (omega arith)
one_more (c ∷ contexts) [] new account place context same e = absurd (omega arith)
one_more (c ∷ contexts) (a ∷ accounts) new account zero context same e = inr (e, refl)
one_more (c ∷ contexts) (a ∷ accounts) new account (suc place) context same e =
    one_more contexts accounts new account place context (omega arith) e

on_more : (contexts : List (Option SpendContext)) (accounts : List (Option ℕ)) (new : SpendContext) (account : ℕ) (of : List ℕ → Option ℕ)
    → AreOn contexts accounts of → of new.supi ≡ Some account → AreOn (contexts ++ Some new ∷ []) (accounts ++ Some account ∷ []) of
on_more contexts accounts new account of on mine = record {
  sizes = let old = on.sizes in omega (arith, length-append contexts (Some new ∷ []), length-append accounts (Some account ∷ []));
  each = λ place context e. by place context (one_more contexts accounts new account place context on.sizes e);
}
  where
    by : (place : ℕ) (context : SpendContext)
        → ((new ≡ context) × (get_or (accounts ++ Some account ∷ []) place None ≡ Some account))
        ⊎ ((get_or contexts place None ≡ Some context) × (get_or (accounts ++ Some account ∷ []) place None ≡ get_or accounts place None))
        → IsOn (accounts ++ Some account ∷ []) of place context
    by place context (inl h) = record {
      account = account;
      watches = h.1;
      named = ap (λ (c : SpendContext). of c.supi) (sym h.0) ∙ mine;
    }
    by place context (inr h) =
        let old = on.each place context h.0 in
        record { account = old.account; watches = h.1 ∙ old.watches; named = old.named }

on_subscribe : (rows : List (List (List ℕ))) (w : Watched) (names : List (List ℕ)) (context : SpendContext) (o : Option Subscription) (of : List ℕ → Option ℕ)
    → AreOn w.contexts w.accounts of
    → ((row : Subscription) → o ≡ Some row → of context.supi ≡ Some (number_for names row.account))
    → AreOn (stepped rows w (subscribing names context o)).contexts (stepped rows w (subscribing names context o)).accounts of
on_subscribe rows w names context None of on mine = on
on_subscribe rows w names context (Some row) of on mine =
    on_more w.contexts w.accounts context (number_for names row.account) of on (mine row refl)

-- ---- another context, and the end

-- a fresh context is of a live subscription, and of its subscriber
record IsGiven (last : Option SpendContext) (supi : List ℕ) : Type 0 where
  before : SpendContext
  is : last ≡ Some before
  own : before.supi ≡ supi

given : (last : Option SpendContext) (supi : List ℕ) (known : Bool) (told o : Outcome) → decide_modify last supi known told ≡ Fresh o → IsGiven last supi
given None supi known told o e = absurd (cc)
given (Some last) supi known told o e = by (name_eq last.supi supi) refl e
  where
    by : (t : Bool) → name_eq last.supi supi ≡ t → cond t (decide_known known told) (Refused WrongSupi) ≡ Fresh o → IsGiven (Some last) supi
    by true t e = record { before = last; is = refl; own = same_name last.supi supi t }
    by false t e = absurd (cc)

on_given : (contexts : List (Option SpendContext)) (accounts : List (Option ℕ)) (of : List ℕ → Option ℕ) (id : ℕ) (new : SpendContext)
    → AreOn contexts accounts of → IsGiven (context_of contexts id) new.supi → AreOn (set contexts (id - 1) (Some new)) accounts of
on_given contexts accounts of zero new on given = let none = given.is in absurd (cc)
on_given contexts accounts of (suc at) new on given = record {
  sizes = let old = on.sizes in omega (arith, length-set contexts (suc at - 1) (Some new));
  each = λ place context e. by place context e (place == at) refl;
}
  where
    here : suc at - 1 ≡ at
    here = omega arith

    live : get_or contexts at None ≡ Some given.before
    live = sym (context_is contexts at) ∙ given.is

    by : (place : ℕ) (context : SpendContext) → get_or (set contexts (suc at - 1) (Some new)) place None ≡ Some context
        → (t : Bool) → (place == at) ≡ t → IsOn accounts of place context
    by place context e true t =
        let is : place ≡ at = eqb-true place at t in
        let now : get_or (set contexts (suc at - 1) (Some new)) place None ≡ Some new =
        (λ i. get_or (set contexts (here i) (Some new)) (is i) None) ∙ get_or-set_same contexts at (Some new) None (within contexts at given.before live) in
        let same : new ≡ context = same_some new context (sym now ∙ e) in
        let old = on.each at given.before live in
        record {
          account = old.account;
          watches = ap (λ k. get_or accounts k None) is ∙ old.watches;
          named = ap (λ (c : SpendContext). of c.supi) (sym same) ∙ ap of (sym given.own) ∙ old.named;
        }
    by place context e false t =
        let other : place ≢ at = eqb-false place at t in
        on.each place context (sym (get_or-set_other contexts (suc at - 1) place (Some new) None (λ h. other (h ∙ here))) ∙ e)

on_ended : (contexts : List (Option SpendContext)) (accounts : List (Option ℕ)) (of : List ℕ → Option ℕ) (at : ℕ)
    → AreOn contexts accounts of → AreOn (set contexts at None) (set accounts at None) of
on_ended contexts accounts of at on = record {
  sizes = let old = on.sizes in omega (arith, length-set contexts at None, length-set accounts at None);
  each = λ place context e. by place context e (place == at) refl;
}
  where
    by : (place : ℕ) (context : SpendContext) → get_or (set contexts at None) place None ≡ Some context
        → (t : Bool) → (place == at) ≡ t → IsOn (set accounts at None) of place context
    by place context e true t =
        let is : place ≡ at = eqb-true place at t in
        let size = length-set contexts at None in
        let long = within (set contexts at None) place context e in
        let none : get_or (set contexts at None) place None ≡ None =
        ap (λ k. get_or (set contexts at None) k None) is ∙ get_or-set_same contexts at None None (omega arith) in
        absurd (let no : Some context ≡ None = sym e ∙ none in cc)
    by place context e false t =
        let other : place ≢ at = eqb-false place at t in
        let old = on.each place context (sym (get_or-set_other contexts at place None None other) ∙ e) in
        record {
          account = old.account;
          watches = get_or-set_other accounts at place None None other ∙ old.watches;
          named = old.named;
        }

-- ---- a subscriber's row

turned : (a b : List ℕ) (t : Bool) → name_eq a b ≡ t → name_eq b a ≡ t
turned a b t e = nat_list_eq_equiv.symm b a ∙ e

module _ (rows : List (List (List ℕ))) (w : Watched) (supi : List ℕ) where
  -- whether a subscription is among those of the subscriber on an account
  pub among : (from place k : ℕ) (context : SpendContext) (t : Bool) → get_or w.contexts place None ≡ Some context
      → get_or w.accounts place None ≡ Some k → name_eq supi context.supi ≡ t
      → is_in (suc place) (watching_for w supi from) ≡ ((k == from) && t)
  among from place k context t live on own =
      among_those w supi from place
      ∙ (λ i. watches from (on i) && is_of supi ((context_is w.contexts place ∙ live) i))
      ∙ ap (λ b. (k == from) && b) (turned supi context.supi t own)

  module _ (from to before after : ℕ) where
    -- what the move of the subscriber from one account to another makes, where they are two
    abbrev move : Bool → Option Step
    move t = cond t None (Some (Moved supi from to before after))

    row_contexts : (t : Bool) → (stepped rows w (move t)).contexts ≡ w.contexts
    row_contexts true = refl
    row_contexts false = posted_contexts w (makes rows w (Moved supi from to before after))

    row_sizes : (t : Bool) → length (stepped rows w (move t)).accounts ≡ length w.accounts
    row_sizes true = refl
    row_sizes false =
        moved_length to (all_posted w (makes rows w (Moved supi from to before after))).accounts (watching_for w supi from)
        ∙ ap length (posted_accounts w (makes rows w (Moved supi from to before after)))

    moved_is : (place k : ℕ) → get_or w.accounts place None ≡ Some k
        → get_or (stepped rows w (move false)).accounts place None
        ≡ cond (is_in (suc place) (watching_for w supi from)) (Some to) (Some k)
    moved_is place k on =
        ap (λ (accounts : List (Option ℕ)). get_or (moved_to to accounts (watching_for w supi from)) place None)
        (posted_accounts w (makes rows w (Moved supi from to before after)))
        ∙ moved_at to w.accounts (watching_for w supi from) 1 place (omega arith) (those_ascend w supi from) (within w.accounts place k on)
        ∙ ap (cond (is_in (suc place) (watching_for w supi from)) (Some to)) on

    -- those of the subscriber watch the other account then
    row_own : (t : Bool) → (from == to) ≡ t → (place k : ℕ) (context : SpendContext) → get_or w.contexts place None ≡ Some context
        → get_or w.accounts place None ≡ Some k → name_eq supi context.supi ≡ true → from ≡ k
        → get_or (stepped rows w (move t)).accounts place None ≡ Some to
    row_own true e place k context live on own is = on ∙ ap Some (sym is ∙ eqb-true from to e)
    row_own false e place k context live on own is =
        moved_is place k on
        ∙ ap (λ b. cond b (Some to) (Some k)) (among from place k context true live on own ∙ and_from (k == from) true (eq-eqb k from (sym is)) refl)

    -- and those of others watch the account that they watched
    row_other : (t : Bool) (place k : ℕ) (context : SpendContext) → get_or w.contexts place None ≡ Some context
        → get_or w.accounts place None ≡ Some k → name_eq supi context.supi ≡ false
        → get_or (stepped rows w (move t)).accounts place None ≡ Some k
    row_other true place k context live on other = on
    row_other false place k context live on other =
        moved_is place k on
        ∙ ap (λ b. cond b (Some to) (Some k)) (among from place k context false live on other ∙ and_right (k == from) false refl)

module _ (rows : List (List (List ℕ))) (w : Watched) (before after : Money) (supi : List ℕ) (of later : List ℕ → Option ℕ)
    (on : AreOn w.contexts w.accounts of) (to : ℕ)
    (own : (s : List ℕ) → name_eq supi s ≡ true → later s ≡ Some to)
    (other : (s : List ℕ) (k : ℕ) → of s ≡ Some k → name_eq supi s ≡ false → later s ≡ Some k) where
  on_moving : (from : ℕ) → ((k : ℕ) → of supi ≡ Some k → from ≡ k)
      → AreOn (stepped rows w (moving before after supi from to)).contexts (stepped rows w (moving before after supi from to)).accounts later
  on_moving from is = record {
    sizes = row_sizes rows w supi from to (spent_on before (Some from)) (spent_on after (Some to)) (from == to) ∙ on.sizes ∙ sym (ap length (row_contexts rows w supi from to (spent_on before (Some from)) (spent_on after (Some to)) (from == to)));
    each = λ place context e.
        by place context (sym (ap (λ (cs : List (Option SpendContext)). get_or cs place None) (row_contexts rows w supi from to (spent_on before (Some from)) (spent_on after (Some to)) (from == to))) ∙ e)
        (name_eq supi context.supi) refl;
  }
    where
      by : (place : ℕ) (context : SpendContext) → get_or w.contexts place None ≡ Some context → (t : Bool) → name_eq supi context.supi ≡ t
          → IsOn (stepped rows w (moving before after supi from to)).accounts later place context
      by place context e true t =
          let old = on.each place context e in
          let k : from ≡ old.account = is old.account (ap of (same_name supi context.supi t) ∙ old.named) in
          record {
            account = to;
            watches = row_own rows w supi from to (spent_on before (Some from)) (spent_on after (Some to)) (from == to) refl place old.account context e old.watches t k;
            named = own context.supi t;
          }
      by place context e false t =
          let old = on.each place context e in
          record {
            account = old.account;
            watches = row_other rows w supi from to (spent_on before (Some from)) (spent_on after (Some to)) (from == to) place old.account context e old.watches t;
            named = other context.supi old.account old.named t;
          }

  -- a subscriber without a row has no live subscription
  on_first : of supi ≡ None → AreOn w.contexts w.accounts later
  on_first none = record { sizes = on.sizes; each = λ place context e. by place context e (name_eq supi context.supi) refl }
    where
      by : (place : ℕ) (context : SpendContext) → get_or w.contexts place None ≡ Some context → (t : Bool) → name_eq supi context.supi ≡ t
          → IsOn w.accounts later place context
      by place context e true t =
          let old = on.each place context e in
          absurd (let no : Some old.account ≡ None = sym old.named ∙ ap of (sym (same_name supi context.supi t)) ∙ none in cc)
      by place context e false t =
          let old = on.each place context e in
          record { account = old.account; watches = old.watches; named = other context.supi old.account old.named t }

on_row : (rows : List (List (List ℕ))) (w : Watched) (names : List (List ℕ)) (before after : Money) (supi account : List ℕ)
    (of later : List ℕ → Option ℕ) → AreOn w.contexts w.accounts of
    → ((s : List ℕ) → name_eq supi s ≡ true → later s ≡ Some (number_for names account))
    → ((s : List ℕ) (k : ℕ) → of s ≡ Some k → name_eq supi s ≡ false → later s ≡ Some k)
    → (o : Option Subscription) → of supi ≡ option_and_then (λ r. number_in names r.account) o
    → AreOn (stepped rows w (moving_to names before after supi account o)).contexts (stepped rows w (moving_to names before after supi account o)).accounts later
on_row rows w names before after supi account of later on own other None is =
    on_first rows w before after supi of later on (number_for names account) own other is
on_row rows w names before after supi account of later on own other (Some row) is =
    on_moving rows w before after supi of later on (number_for names account) own other (number_for names row.account)
    (λ k e. number_of names row.account k (sym is ∙ e))

-- ---- every list that came to be

-- so after the commands of a list
abbrev pub AccountsAreOn : List Command → Type 0
AccountsAreOn commands = AreOn (watched commands).contexts (watched commands).accounts (account_of commands)

pub are_on : DecisionsAreJoined → (commands : List Command) → IsHistory commands → AccountsAreOn commands
are_on joined [] h = record { sizes = refl; each = λ place context e. absurd (cc) }
are_on joined (Charge q ∷ before) h =
    on_charge (counters_in (setup_of before)) (watched before) (money before) (money (Charge q ∷ before)) (target_of before q)
    (account_of before) (are_on joined before h.1.1)
are_on joined (Subscriber supi account barred ∷ before) h =
    on_row (counters_in (setup_of before)) (watched before) (account_names before) (money before) (money (Subscriber supi account barred ∷ before)) supi account
    (account_of before) (account_of (Subscriber supi account barred ∷ before)) (are_on joined before h.1.1)
    (λ s e. own_row before supi account barred s e) (λ s k e f. other_row before supi account barred s k e f)
    (subscription_of before supi) refl
are_on joined (Subscribe context ∷ before) h =
    on_subscribe (counters_in (setup_of before)) (watched before) (account_names before) context (subscription_of before context.supi)
    (account_of before) (are_on joined before h.1.1) (λ row e. account_is before context.supi row e)
are_on joined (Modify id context ∷ before) h =
    on_given (watched before).contexts (watched before).accounts (account_of before) id context (are_on joined before h.1.1)
    (given (context_of (contexts before) id) context.supi (are_known (counters_in (setup_of before)) context.counters)
    (outcome.Spending id (status_for before context)) h.0.0 (sym (joined before (Modify id context)) ∙ h.0.1))
are_on joined (Unsubscribe id ∷ before) h =
    on_ended (watched before).contexts (watched before).accounts (account_of before) (id - 1) (are_on joined before h.1.1)
are_on joined (NoticeSent id number ∷ before) h = are_on joined before h.1.1
are_on joined (c ∷ before) h = are_on joined before h.1.1
