-- The account lines: `account,NAME,TOPUPS,BALANCE,TAKEN,OWED,RESERVED` by name in byte order, sums in grains (this product's own).
use Rattle.std.specs.Prelude.{ℕ, ◌+◌, List, [], ◌∷◌, ◌++◌, Option, Some, None, reverse, codes}
use Rattle.std.specs.List.{flat_map}
use Rattle.std.specs.Fmt.{decimal}
use Rattle.std.specs.Ordering.{nat_cmp}
use Rattle.std.specs.Cmp.Lexicographic.{slice_cmp}
use Rattle.std.specs.BTreeMap.{insert_entry}
use Rattle.accounts.specs.Ledger.{State, balance, numbers, reserved}
use Rattle.accounts.specs.Answers.{where_known}
use Rattle.chf_core.specs.State as chf

-- names, the first of which has this number, among others: each in its place in byte order, with its number
abbrev pub in_order : List (List ℕ × ℕ) → ℕ → List (List ℕ) → List (List ℕ × ℕ)
in_order entries number [] = entries
in_order entries number (name ∷ names) = in_order (insert_entry (slice_cmp nat_cmp) entries name number) (number + 1) names

-- the accounts by name, each with its number
abbrev pub accounts_by_name : chf.State → List (List ℕ × ℕ)
accounts_by_name s = in_order [] 0 (reverse s.names)

-- `account,NAME,`
abbrev pub name_text : List ℕ → List ℕ
name_text name = codes "account," ++ (name ++ codes ",")

-- a sum of an account; one that is not there has 0
abbrev pub or_zero : Option ℕ → ℕ
or_zero None = 0
or_zero (Some amount) = amount

-- a sum of an account, 0 where the account is not known
abbrev pub sum_of : State → ℕ → ℕ → ℕ
sum_of state account amount = or_zero (where_known state account amount)

-- `TOPUPS,BALANCE,TAKEN,`
abbrev pub balance_text : State → ℕ → List ℕ
balance_text state account =
    decimal (sum_of state account (numbers state account).topups) ++ (codes "," ++ (decimal (sum_of state account (balance state account)) ++ (codes "," ++ (decimal (sum_of state account (numbers state account).taken) ++ codes ","))))

-- `OWED,RESERVED` and the line's end
abbrev pub owed_text : State → ℕ → List ℕ
owed_text state account = decimal (sum_of state account (numbers state account).owed) ++ (codes "," ++ (decimal (sum_of state account (reserved state account)) ++ codes "\n"))

-- the line of an account
abbrev pub account_line : State → List ℕ × ℕ → List ℕ
account_line state account = name_text account.0 ++ (balance_text state account.1 ++ owed_text state account.1)

-- all account lines
abbrev pub account_lines : chf.State → List ℕ
account_lines s = flat_map (account_line s.money) (accounts_by_name s)
