-- What the calls answer (this product's own).
use Rattle.std.specs.Prelude.{ℕ, nat_lt, if◌then◌else◌, length, Option, Some, None, Result, Ok, Err}
use Rattle.accounts.specs.Ledger.{State, free}
use Rattle.accounts.specs.declared.refusal.AccountRefusal.{AccountRefusal}
use Rattle.accounts.specs.declared.refusal.AccountRefusal.TheVariants.{UnknownAccount, Exceeds}

-- this number of an account, or nothing where there is no such account
abbrev pub where_known : State → ℕ → ℕ → Option ℕ
where_known s account number = if nat_lt account (length s.accounts) then Some number else None

-- an unknown account is refused, then an amount above what is free
abbrev pub reserve_answer : State → ℕ → ℕ → Result (Unit {0}) AccountRefusal
reserve_answer s account amount =
    if nat_lt account (length s.accounts)
    then (if nat_lt (free s account) amount then Err (Exceeds (free s account)) else Ok tt)
    else Err UnknownAccount
