-- What holds of each account after every list of moves (this product's own).
use Rattle.std.specs.Prelude.{◌≡◌, ℕ, ◌+◌, ◌≤◌, ◌==◌, if◌then◌else◌, List, sum_by}
use Rattle.accounts.specs.Ledger.{State, numbers, balance, reserved, debits}
use Rattle.accounts.specs.Moves.{Move, ToppedUp, state_of, AreAllowed}

-- the balance and the lines are together the top-ups and what is owed, and what is set aside is within the balance
pub record IsBalanced (s : State) (account : ℕ) : Type 0 where
  pub taken : (numbers s account).taken ≤ (numbers s account).topups
  pub sums : balance s account + debits s.lines account ≡ (numbers s account).topups + (numbers s account).owed
  pub within : reserved s account ≤ balance s account

-- so after every list of moves
abbrev pub BooksBalance : Type 0
BooksBalance = (moves : List Move) (account : ℕ) → AreAllowed moves → IsBalanced (state_of moves) account

-- what a move tops up on an account
abbrev pub topup_of : ℕ → Move → ℕ
topup_of account (ToppedUp a amount) = if a == account then amount else 0
topup_of account move = 0

-- the top-ups are the sum of the amounts topped up
abbrev pub TopupsAreSummed : Type 0
TopupsAreSummed = (moves : List Move) (account : ℕ) → AreAllowed moves → (numbers (state_of moves) account).topups ≡ sum_by (topup_of account) moves
