-- Names of accounts keep their numbers, and each row's account has one.
use Rattle.std.proofs.Common.{◌≡◌, ℕ, Bool, true, false, cond, List, [], ◌∷◌, length, unwrap_or, Option, Some, None, refl, sym, ap, subst, ◌∙◌}
use Rattle.std.specs.Option.{option_and_then}
use Rattle.std.specs.Cmp.Lexicographic.{bytes_decides}
use Rattle.chf_core.specs.declared.command.Command.{Command}
use Rattle.chf_core.specs.declared.command.Command.TheVariants.{Subscriber}
use Rattle.chf_core.specs.declared.subscription.Subscription.{Subscription}
use Rattle.chf_core.specs.Operator.{name_eq, number_in, with_name, account_names, subscription_of, account_of}
use Rattle.chf_core.specs.Stepping.{number_for}

pub itself : (a : List ℕ) → name_eq a a ≡ true
itself a = (bytes_decides a a).1 refl

pub same_name : (a b : List ℕ) → name_eq a b ≡ true → a ≡ b
same_name a b e = (bytes_decides a b).0 e

-- a name with a number is not a new one
not_new : (names : List (List ℕ)) (a name : List ℕ) (n : ℕ) → number_in names name ≡ Some n → number_in names a ≡ None → name_eq a name ≡ false
not_new names a name n e f = by (name_eq a name) refl
  where
    by : (t : Bool) → name_eq a name ≡ t → t ≡ false
    by true t = absurd (let z : Some n ≡ None = sym e ∙ ap (number_in names) (sym (same_name a name t)) ∙ f in cc)
    by false t = refl

-- so it keeps its number
pub kept : (names : List (List ℕ)) (a name : List ℕ) (n : ℕ) → number_in names name ≡ Some n
    → number_in (with_name names a (number_in names a)) name ≡ Some n
kept names a name n e = by (number_in names a) refl
  where
    by : (o : Option ℕ) → number_in names a ≡ o → number_in (with_name names a o) name ≡ Some n
    by (Some k) f = e
    by None f = ap (λ t. cond t (Some (length names)) (number_in names name)) (not_new names a name n e f) ∙ e

-- a name that comes has its number, or the next one
pub number_is : (names : List (List ℕ)) (a : List ℕ) → number_in (with_name names a (number_in names a)) a ≡ Some (number_for names a)
number_is names a = by (number_in names a) refl
  where
    by : (o : Option ℕ) → number_in names a ≡ o → number_in (with_name names a o) a ≡ Some (unwrap_or o (length names))
    by (Some k) e = e
    by None e = ap (λ t. cond t (Some (length names)) (number_in names a)) (itself a)

pub number_of : (names : List (List ℕ)) (a : List ℕ) (n : ℕ) → number_in names a ≡ Some n → number_for names a ≡ n
number_of names a n e = ap (λ o. unwrap_or o (length names)) e

-- ---- the account of each row

pub same_some : {X : Type 0} (x y : X) → Some x ≡ Some y → x ≡ y
same_some x y e = cc

-- an account has a number
record HasNumber (names : List (List ℕ)) (account : List ℕ) : Type 0 where
  pub number : ℕ
  pub is : number_in names account ≡ Some number

has_number : (commands : List Command) (supi : List ℕ) (row : Subscription) → subscription_of commands supi ≡ Some row
    → HasNumber (account_names commands) row.account
has_number [] supi row e = absurd (cc)
has_number (Subscriber other account barred ∷ before) supi row e = by (has_number before supi row) (name_eq other supi) e
  where
    by : (subscription_of before supi ≡ Some row → HasNumber (account_names before) row.account)
        → (t : Bool) → cond t (Some (record { account = account; barred = barred })) (subscription_of before supi) ≡ Some row
        → HasNumber (with_name (account_names before) account (number_in (account_names before) account)) row.account
    by rest true e =
        let row' : Subscription = record { account = account; barred = barred } in
        let is : row' ≡ row = same_some row' row e in
        record {
          number = number_for (account_names before) account;
          is = subst (λ (r : Subscription). number_in (with_name (account_names before) account (number_in (account_names before) account)) r.account ≡ Some (number_for (account_names before) account))
              is (number_is (account_names before) account);
        }
    by rest false e =
        let old = rest e in
        record { number = old.number; is = kept (account_names before) account row.account old.number old.is }
has_number (c ∷ before) supi row e = has_number before supi row e

-- so it is the account of the subscriber
pub account_is : (commands : List Command) (supi : List ℕ) (row : Subscription) → subscription_of commands supi ≡ Some row
    → account_of commands supi ≡ Some (number_for (account_names commands) row.account)
account_is commands supi row e =
    let n = has_number commands supi row e in
    ap (option_and_then (λ (s : Subscription). number_in (account_names commands) s.account)) e ∙ n.is
    ∙ ap Some (sym (number_of (account_names commands) row.account n.number n.is))

-- ---- the account of each subscriber, after a row

still : (names : List (List ℕ)) (account : List ℕ) (k : ℕ) (o : Option Subscription)
    → option_and_then (λ s. number_in names s.account) o ≡ Some k
    → option_and_then (λ s. number_in (with_name names account (number_in names account)) s.account) o ≡ Some k
still names account k None e = absurd (cc)
still names account k (Some row) e = kept names account row.account k e

-- of another subscriber it stays
pub other_row : (before : List Command) (supi account : List ℕ) (barred : List ℕ) (other : List ℕ) (k : ℕ)
    → account_of before other ≡ Some k → name_eq supi other ≡ false
    → account_of (Subscriber supi account barred ∷ before) other ≡ Some k
other_row before supi account barred other k e f =
    let names = account_names before in
    ap (λ t. option_and_then (λ (s : Subscription). number_in (with_name names account (number_in names account)) s.account)
    (cond t (Some (record { account = account; barred = barred })) (subscription_of before other))) f
    ∙ still names account k (subscription_of before other) e

-- its own is the one that the row names
pub own_row : (before : List Command) (supi account : List ℕ) (barred : List ℕ) (own : List ℕ) → name_eq supi own ≡ true
    → account_of (Subscriber supi account barred ∷ before) own ≡ Some (number_for (account_names before) account)
own_row before supi account barred own f =
    let names = account_names before in
    ap (λ t. option_and_then (λ (s : Subscription). number_in (with_name names account (number_in names account)) s.account)
    (cond t (Some (record { account = account; barred = barred })) (subscription_of before own))) f
    ∙ number_is names account
