-- What was spent on an account is the sum of its lines in the ledger, so that only a charge on it changes it; and where
-- nothing more was spent, no status is another.
use Rattle.std.proofs.Common.{◌≡◌, ◌==◌, ◌+◌, ◌-◌, ◌≤◌, ℕ, Bool, false, cond, List, [], ◌∷◌, map, Option, Some, None, refl, sym, ap, ◌∙◌, arith}
use Rattle.std.specs.List.{filter_map, cons_option}
use Rattle.std.specs.Cmp.Lexicographic.{bytes_decides}
use Rattle.std.proofs.lemmas.List.Sums.{sum_by-cons, sum_by-append}
use Rattle.units.specs.declared.request.Used.{Used}
use Rattle.units.specs.declared.request.UnitUsage.{UnitUsage}
use Rattle.units.specs.declared.request.Request.{Request}
use Rattle.units.specs.declared.spending.SpendContext.{SpendContext}
use Rattle.counters.specs.Status.{status}
use Rattle.counters.specs.Watching.{with_status, if_another, changes, watched}
use Rattle.rating.specs.Price.{price}
use Rattle.accounts.specs.Ledger.{State as Money, numbers, debits, line_share}
use Rattle.accounts.specs.Balanced.{IsBalanced}
use Rattle.notices.specs.Due.{notice_with}
use Rattle.chf_core.specs.declared.command.Command.{Command}
use Rattle.chf_core.specs.declared.command.Command.TheVariants.{Charge}
use Rattle.chf_core.specs.Operator.{setup_of}
use Rattle.chf_core.specs.Money.{money, rates_in, target_of}
use Rattle.chf_core.specs.MoneyLaws.{AccountsBalance, LedgerIsWhole}
use Rattle.chf_core.specs.Ledger.{line_of, lines_of, lines_for, ledger}
use Rattle.chf_core.specs.Spending.{spent_on}

-- ---- lines

-- what some function of requests may give
abbrev GivenBy : {X : Type 0} → (List Command → Request → Option X) → Type 0
GivenBy {X} f = X

-- whom a request charges
abbrev pub Target : Type 0
Target = GivenBy target_of

sums : (topups taken owed charged : ℕ) → taken ≤ topups → (topups - taken) + charged ≡ topups + owed → taken + owed ≡ charged
sums topups taken owed charged le e = omega arith

spent_is : (s : Money) (account : ℕ) → IsBalanced s account → spent_on s (Some account) ≡ debits s.lines account
spent_is s account b =
    sums (numbers s account).topups (numbers s account).taken (numbers s account).owed (debits s.lines account) b.taken b.sums

-- lines of a target are on no other account
used_elsewhere : (rates : List (List (List ℕ))) (t : Target) (group : ℕ) (used : List Used) (account : ℕ) → (t.account == account) ≡ false
    → debits (map (line_of rates t group) used) account ≡ 0
used_elsewhere rates t group [] account e = refl
used_elsewhere rates t group (c ∷ used) account e =
    let first : line_share account (line_of rates t group c) ≡ 0 = ap (λ b. cond b (price rates group c.up c.down c.seconds c.first) 0) e in
    let rest = used_elsewhere rates t group used account e in
    sum_by-cons (line_share account) (line_of rates t group c) (map (line_of rates t group) used) ∙ (λ i. first i + rest i)

lines_elsewhere : (rates : List (List (List ℕ))) (t : Target) (usage : List UnitUsage) (account : ℕ) → (t.account == account) ≡ false
    → debits (lines_of rates t usage) account ≡ 0
lines_elsewhere rates t [] account e = refl
lines_elsewhere rates t (u ∷ usage) account e =
    let first = used_elsewhere rates t u.group u.used account e in
    let rest = lines_elsewhere rates t usage account e in
    sum_by-append (line_share account) (map (line_of rates t u.group) u.used) (lines_of rates t usage) ∙ (λ i. first i + rest i)

-- whether a request charges an account
abbrev pub charges_on : ℕ → Option Target → Bool
charges_on account None = false
charges_on account (Some t) = t.account == account

for_elsewhere : (rates : List (List (List ℕ))) (q : Request) (o : Option Target) (account : ℕ) → charges_on account o ≡ false
    → debits (lines_for rates q o) account ≡ 0
for_elsewhere rates q None account e = refl
for_elsewhere rates q (Some t) account e = lines_elsewhere rates t q.usage account e

-- ---- what was spent

module _ (balance : AccountsBalance) (whole : LedgerIsWhole) where
  spent_lines : (commands : List Command) (account : ℕ) → spent_on (money commands) (Some account) ≡ debits (ledger commands) account
  spent_lines commands account =
      spent_is (money commands) account (balance commands account) ∙ ap (λ lines. debits lines account) (whole commands)

  pub spent_kept : (c : Command) (before : List Command) (account : ℕ) → ledger (c ∷ before) ≡ ledger before
      → spent_on (money (c ∷ before)) (Some account) ≡ spent_on (money before) (Some account)
  spent_kept c before account e =
      spent_lines (c ∷ before) account ∙ ap (λ lines. debits lines account) e ∙ sym (spent_lines before account)

  pub spent_elsewhere : (q : Request) (before : List Command) (account : ℕ) → charges_on account (target_of before q) ≡ false
      → spent_on (money (Charge q ∷ before)) (Some account) ≡ spent_on (money before) (Some account)
  spent_elsewhere q before account e =
      let none : debits (ledger before) account + 0 ≡ debits (ledger before) account = omega arith in
      spent_lines (Charge q ∷ before) account
      ∙ sum_by-append (line_share account) (ledger before) (lines_for (rates_in (setup_of before)) q (target_of before q))
      ∙ ap (λ n. debits (ledger before) account + n) (for_elsewhere (rates_in (setup_of before)) q (target_of before q) account e)
      ∙ none ∙ sym (spent_lines before account)

-- ---- statuses

none_another : (s : Option (List ℕ)) → if_another s s ≡ None
none_another None = refl
none_another (Some name) = ap (λ b. cond b None (Some name)) ((bytes_decides name name).1 refl)

all_none : {X Y : Type 0} (f : X → Option Y) → ((x : X) → f x ≡ None) → (xs : List X) → filter_map f xs ≡ []
all_none f h [] = refl
all_none f h (x ∷ xs) = ap (λ o. cons_option o (filter_map f xs)) (h x) ∙ all_none f h xs

unchanged : (rows : List (List (List ℕ))) (named : List (List ℕ)) (spent : ℕ) → changes rows named spent spent ≡ []
unchanged rows named spent =
    all_none (λ counter. with_status counter (if_another (status rows counter spent) (status rows counter spent)))
    (λ counter. ap (with_status counter) (none_another (status rows counter spent))) (watched rows named)

-- where as much was spent as before, no notice comes
pub quiet : (rows : List (List (List ℕ))) (id made : ℕ) (context : SpendContext) (before after : ℕ) → after ≡ before
    → notice_with id made context (changes rows context.counters before after) ≡ None
quiet rows id made context before after e =
    ap (λ n. notice_with id made context (changes rows context.counters before n)) e
    ∙ ap (notice_with id made context) (unchanged rows context.counters before)
