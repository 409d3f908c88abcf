-- Laws of the accounts over all lists of commands, the newest first (TS 32.290, 5.2.2; this product's own).
use Rattle.std.specs.Prelude.{◌≡◌, ℕ, List, length, sum_by}
use Rattle.accounts.specs.Ledger.{numbers}
use Rattle.accounts.specs.Moves.{state_of, AreAllowed}
use Rattle.accounts.specs.Balanced.{IsBalanced, topup_of}
use Rattle.chf_core.specs.declared.command.Command.{Command}
use Rattle.chf_core.specs.Operator.{account_names}
use Rattle.chf_core.specs.Money.{money}
use Rattle.chf_core.specs.AccountMoves.{account_moves}
use Rattle.chf_core.specs.Ledger.{ledger}

-- The accounts are those that the moves of the commands make, and each move was allowed where it was made.
pub record IsMoved (commands : List Command) : Type 0 where
  pub made : money commands ≡ state_of (account_moves commands)
  pub allowed : AreAllowed (account_moves commands)

-- After each list of commands the accounts are those of its moves, each of which was allowed.
abbrev pub AccountsAreMoved : Type 0
AccountsAreMoved = (commands : List Command) → IsMoved commands

-- There are as many accounts as names of accounts.
abbrev pub AccountsAreNamed : Type 0
AccountsAreNamed = (commands : List Command) → length (money commands).accounts ≡ length (account_names commands)

-- Of each account the balance and its lines are together its top-ups and what it owes, and what is set aside is within the balance.
abbrev pub AccountsBalance : Type 0
AccountsBalance = (commands : List Command) (account : ℕ) → IsBalanced (money commands) account

-- The top-ups of an account are the sum of the amounts topped up.
abbrev pub TopupsAreAdded : Type 0
TopupsAreAdded = (commands : List Command) (account : ℕ) → (numbers (money commands) account).topups ≡ sum_by (topup_of account) (account_moves commands)

-- The lines are one for each container of each accepted request, each at its own price.
abbrev pub LedgerIsWhole : Type 0
LedgerIsWhole = (commands : List Command) → (money commands).lines ≡ ledger commands
