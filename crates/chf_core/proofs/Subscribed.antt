-- What a fresh call on a subscription to spending limits says, and how many subscriptions it leaves.
use Rattle.std.proofs.Common.{◌≡◌, ◌≤◌, ℕ, suc, ◌+◌, ◌-◌, nat_lt, Bool, true, false, cond, List, [], ◌∷◌, ◌++◌, length, unwrap_or, Option, Some, None, refl, sym, ap, arith}
use Rattle.std.proofs.lemmas.Bool.Decides.{nat_tests}
use Rattle.std.proofs.lemmas.List.{get_or_past}
use Rattle.accounts.specs.Ledger.{State as Money, Numbers, numbers, nothing}
use Rattle.accounts.specs.Answers.{where_known}
use Rattle.chf_core.specs.Spending.{spent_on}
use Rattle.std.specs.Option.{is_some}
use Rattle.units.specs.declared.spending.SpendContext.{SpendContext}
use Rattle.counters.specs.Subscriptions.{subscribed, with_context}
use Rattle.chf_core.specs.declared.command.Outcome.{Outcome}
use Rattle.chf_core.specs.declared.decision.Verdict.TheVariants.{Fresh, Refused}
use Rattle.chf_core.specs.declared.refusal.ChfRefusal.TheVariants.{WrongSupi}
use Rattle.chf_core.specs.declared.subscription.Subscription.{Subscription}
use Rattle.chf_core.specs.Operator.{name_eq}
use Rattle.chf_core.specs.Decisions.{decide_known, decide_subscribe, decide_modify, decide_unsubscribe}
use Rattle.chf_core.proofs.Admitted.{length_set}
use Rattle.chf_core.proofs.Few.{pushed}

known_is : (b : Bool) (told o : Outcome) → decide_known b told ≡ Fresh o → b ≡ true
known_is true told o e = refl
known_is false told o e = absurd (cc)

-- the subscriber of a fresh subscription has a row
pub subscribe_row : (row : Option Subscription) (b : Bool) (told o : Outcome) → decide_subscribe row b told ≡ Fresh o → is_some row ≡ true
subscribe_row None b told o e = absurd (cc)
subscribe_row (Some row) b told o e = refl

-- the counters that a fresh subscription names are known
pub subscribe_known : (row : Option Subscription) (b : Bool) (told o : Outcome) → decide_subscribe row b told ≡ Fresh o → b ≡ true
subscribe_known None b told o e = absurd (cc)
subscribe_known (Some row) b told o e = known_is b told o e

-- so are those of a fresh context, which is of a live subscription
pub modify_known : (last : Option SpendContext) (supi : List ℕ) (b : Bool) (told o : Outcome) → decide_modify last supi b told ≡ Fresh o → b ≡ true
modify_known None supi b told o e = absurd (cc)
modify_known (Some last) supi b told o e = elim (name_eq last.supi supi) as (λ s. cond s (decide_known b told) (Refused WrongSupi) ≡ Fresh o → b ≡ true) [
  | true ↦ λ w. known_is b told o w
  | false ↦ λ w. absurd (cc)
] e

pub modify_live : (last : Option SpendContext) (supi : List ℕ) (b : Bool) (told o : Outcome) → decide_modify last supi b told ≡ Fresh o → is_some last ≡ true
modify_live None supi b told o e = absurd (cc)
modify_live (Some last) supi b told o e = refl

pub unsubscribe_live : (last : Option SpendContext) (o : Outcome) → decide_unsubscribe last ≡ Fresh o → is_some last ≡ true
unsubscribe_live None o e = absurd (cc)
unsubscribe_live (Some last) o e = refl

-- ---- what was spent

-- of an account that there may be
pub spent_is : (s : Money) (account : ℕ)
    → unwrap_or (where_known s account (numbers s account).taken) 0 + unwrap_or (where_known s account (numbers s account).owed) 0
    ≡ spent_on s (Some account)
spent_is s account = by (nat_lt account (length s.accounts)) refl
  where
    by : (b : Bool) → nat_lt account (length s.accounts) ≡ b
        → unwrap_or (cond b (Some (numbers s account).taken) None) 0 + unwrap_or (cond b (Some (numbers s account).owed) None) 0
        ≡ (numbers s account).taken + (numbers s account).owed
    by true t = refl
    by false t =
        let past : length s.accounts ≤ account = grind (arith, nat_tests, t) in
        let none : numbers s account ≡ nothing = get_or_past s.accounts account nothing past in
        ap (λ (n : Numbers). n.taken + n.owed) (sym none)

-- ---- how many were ever made

pub length_made : (contexts : List (Option SpendContext)) (context : SpendContext) → length (subscribed contexts context) ≡ length contexts + 1
length_made contexts context = let e = pushed contexts (Some context) in omega arith

pub length_kept : (contexts : List (Option SpendContext)) (id : ℕ) (context : Option SpendContext) → length (with_context contexts id context) ≡ length contexts
length_kept contexts id context = length_set contexts (id - 1) context
