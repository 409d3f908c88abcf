-- What a step leaves is what a commit writes: its notices are posted, and then subscriptions watch another account.
use Rattle.std.proofs.Common.{◌≡◌, ◌==◌, ◌+◌, ℕ, zero, suc, Bool, true, false, cond, List, [], ◌∷◌, ◌++◌, Option, Some, None, IfSome, is_some, refl, sym, ap, ◌∙◌}
use mathlib.Core.Bool.{false≢true}
use Rattle.units.specs.declared.spending.SpendContext.{SpendContext}
use Rattle.accounts.specs.Ledger.{State as Money, Numbers, numbers, nothing}
use Rattle.accounts.specs.Making.{made}
use Rattle.notices.specs.declared.notice.Notice.{Notice}
use Rattle.notices.specs.Watched.{Watched, subscribed_on, moved, all_posted, posted}
use Rattle.notices.specs.Due.{due}
use Rattle.notices.specs.Steps.{Step, Moved}
use Rattle.chf_core.specs.declared.target.Target.{Target}
use Rattle.chf_core.specs.declared.subscription.Subscription.{Subscription}
use Rattle.chf_core.specs.Spending.{spent_on}
use Rattle.chf_core.specs.CommandMoves.{adding}
use Rattle.chf_core.specs.Stepping.{number_for, spending, moving_to, subscribing, stepped, notices_by, ids_by, due_of}

-- ---- a request

pub due_is : (rows : List (List (List ℕ))) (w : Watched) (s later : Money) (o : Option Target) (before after : ℕ)
    → IfSome o (λ t. before ≡ spent_on s (Some t.account)) → IfSome o (λ t. after ≡ spent_on later (Some t.account))
    → due_of rows w o before after ≡ notices_by rows w (spending s later o)
due_is rows w s later None before after b a = refl
due_is rows w s later (Some t) before after b a = λ i. due rows w t.account (b i) (a i)

pub charged : (rows : List (List (List ℕ))) (w : Watched) (before after : Money) (o : Option Target)
    → all_posted w (notices_by rows w (spending before after o)) ≡ stepped rows w (spending before after o)
charged rows w before after None = refl
charged rows w before after (Some t) = refl

pub charged_posted : (rows : List (List (List ℕ))) (w : Watched) (before after : Money) (o : Option Target) (notices : List Notice)
    → notices ≡ notices_by rows w (spending before after o) → all_posted w notices ≡ stepped rows w (spending before after o)
charged_posted rows w before after o notices e = ap (all_posted w) e ∙ charged rows w before after o

-- ---- a subscription that is made

pub subscribed_is : (rows : List (List (List ℕ))) (w : Watched) (names : List (List ℕ)) (context : SpendContext) (account : ℕ) (row : Option Subscription)
    → is_some row ≡ true → IfSome row (λ r. account ≡ number_for names r.account)
    → subscribed_on w context account ≡ stepped rows w (subscribing names context row)
subscribed_is rows w names context account None e h = absurd (false≢true e)
subscribed_is rows w names context account (Some row) e h = ap (subscribed_on w context) h

-- ---- a subscriber's row

-- a new account changes no sum
pub spent_added : (s : Money) (o : Option ℕ) (account : ℕ) → spent_on (made (adding o) s) (Some account) ≡ spent_on s (Some account)
spent_added s (Some n) account = refl
spent_added s None account = ap (λ (n : Numbers). n.taken + n.owed) (by s.accounts account)
  where
    by : (xs : List Numbers) (i : ℕ) → numbers (record s { accounts = xs ++ nothing ∷ [] }) i ≡ numbers (record s { accounts = xs }) i
    by [] zero = refl
    by [] (suc i) = refl
    by (x ∷ xs) zero = refl
    by (x ∷ xs) (suc i) = by xs i

-- so the step is the same by the money before it
pub moving_is : (names : List (List ℕ)) (s : Money) (o : Option ℕ) (supi account : List ℕ) (row : Option Subscription)
    → moving_to names s (made (adding o) s) supi account row ≡ moving_to names s s supi account row
moving_is names s o supi account None = refl
moving_is names s o supi account (Some row) =
    let from = number_for names row.account in
    let to = number_for names account in
    ap (λ n. cond (from == to) None (Some (Moved supi from to (spent_on s (Some from)) n))) (spent_added s o to)

one_moved : (rows : List (List (List ℕ))) (w : Watched) (supi : List ℕ) (old new before after : ℕ) (same : Bool)
    → moved (all_posted w (notices_by rows w (cond same None (Some (Moved supi old new before after)))))
    (ids_by w (cond same None (Some (Moved supi old new before after)))) new
    ≡ stepped rows w (cond same None (Some (Moved supi old new before after)))
one_moved rows w supi old new before after true = refl
one_moved rows w supi old new before after false = refl

pub moved_to : (rows : List (List (List ℕ))) (w : Watched) (names : List (List ℕ)) (before after : Money) (supi account : List ℕ) (row : Option Subscription)
    → moved (all_posted w (notices_by rows w (moving_to names before after supi account row)))
    (ids_by w (moving_to names before after supi account row)) (number_for names account)
    ≡ stepped rows w (moving_to names before after supi account row)
moved_to rows w names before after supi account None = refl
moved_to rows w names before after supi account (Some row) =
    let old = number_for names row.account in
    let new = number_for names account in
    one_moved rows w supi old new (spent_on before (Some old)) (spent_on after (Some new)) (old == new)

pub moved_posted : (rows : List (List (List ℕ))) (w : Watched) (names : List (List ℕ)) (before after : Money) (supi account : List ℕ) (row : Option Subscription)
    (to : ℕ) (ids : List ℕ) (notices : List Notice) → to ≡ number_for names account
    → ids ≡ ids_by w (moving_to names before after supi account row)
    → notices ≡ notices_by rows w (moving_to names before after supi account row)
    → moved (all_posted w notices) ids to ≡ stepped rows w (moving_to names before after supi account row)
moved_posted rows w names before after supi account row to ids notices e f g =
    (λ i. moved (all_posted w (g i)) (f i) (e i)) ∙ moved_to rows w names before after supi account row

-- ---- how many subscriptions were ever made

pub posted_contexts : (w : Watched) (notices : List Notice) → (all_posted w notices).contexts ≡ w.contexts
posted_contexts w [] = refl
posted_contexts w (n ∷ notices) = posted_contexts (posted w n) notices
