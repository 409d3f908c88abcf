-- What a result that has a value ensures.
use Rattle.std.proofs.Common.{◌≡◌, ◌≤◌, ◌<◌, ℕ, nat_lt, true, false, cond, length, Result, Ok, Err, ap, ◌∙◌, arith}
use Rattle.std.specs.Result.{IsOk, OnOk}
use Rattle.std.proofs.lemmas.Bool.Decides.{nat_tests}
use Rattle.accounts.specs.Ledger.{State, free}
use Rattle.accounts.specs.Answers.{reserve_answer}
use Rattle.accounts.specs.declared.refusal.AccountRefusal.TheVariants.{UnknownAccount, Exceeds}

pub from_ok : {T E : Type 0} (r : Result T E) (P : Type 0) → IsOk r → OnOk r P → P
from_ok (Ok x) P h p = p
from_ok (Err e) P h p = absurd (cc)

pub from_answer : {T E : Type 0} (r : Result T E) (P : Type 0) {x : T} → r ≡ Ok x → OnOk r P → P
from_answer (Ok x) P e p = p
from_answer (Err e) P h p = absurd (cc)

-- an amount that is free is not refused
pub reserve_ok : (s : State) (account amount : ℕ) → account < length s.accounts → amount ≤ free s account → reserve_answer s account amount ≡ Ok tt
reserve_ok s account amount lt le =
    let a : nat_lt account (length s.accounts) ≡ true = grind (arith, nat_tests) in
    let b : nat_lt (free s account) amount ≡ false = grind (arith, nat_tests) in
    ap (λ x. cond x (cond (nat_lt (free s account) amount) (Err (Exceeds (free s account))) (Ok tt)) (Err UnknownAccount)) a ∙ ap (λ x. cond x (Err (Exceeds (free s account))) (Ok tt)) b
