-- What the running numbers of the accounts are: no public clause names these.
use Rattle.std.specs.Prelude.{◌≡◌, ℕ, ◌+◌, ◌-◌, ◌<◌, ◌≤◌, min, List, length, map as each, vec_len, vec_capacity, slice_index_or, IfSome}
use Rattle.std.specs.FinMap as map
use Rattle.accounts.specs.declared.reservation.Key.{Key}
use Rattle.accounts.specs.declared.reservation.Reservation.{Reservation}
use Rattle.accounts.specs.declared.line.Line.{Line}
use Rattle.accounts.specs.declared.account.Account.{Account}
use Rattle.accounts.specs.declared.accounts.Accounts.TheInside.{Inside}
use Rattle.accounts.specs.Reservations.{ReservationMap}
use Rattle.accounts.specs.Numbers.{numbers_of}
use Rattle.accounts.specs.Ledger.{State, Contents, numbers, reserved, debits}

-- an account that is not there
abbrev pub no_account : Account
no_account = record { topups = 0; taken = 0; owed = 0; reserved = 0 }

-- the state that the fields stand for
abbrev pub state_seen : List Account → ReservationMap → List Line → State
state_seen accounts reservations lines = record { accounts = each numbers_of accounts; reservations = reservations; lines = lines }

-- what is set aside is within what was not taken, and what was charged was taken or is owed
pub record IsSound (s : State) (account : ℕ) : Type 0 where
  pub balance : reserved s account + (numbers s account).taken ≤ (numbers s account).topups
  pub debits : debits s.lines account ≡ (numbers s account).taken + (numbers s account).owed

-- a reservation is of an account that there is, and something is left of it
abbrev pub IsStanding : ℕ → Reservation → Type 0
IsStanding accounts r = (r.account < accounts) × (0 < r.left)

-- each account keeps the sum of its reservations
pub record AreKept (accounts : List Account) (reservations : ReservationMap) (lines : List Line) : Type 0 where
  pub sums : (a : ℕ) → (slice_index_or accounts a no_account).reserved ≡ reserved (state_seen accounts reservations lines) a
  pub sound : (a : ℕ) → IsSound (state_seen accounts reservations lines) a
  pub known : (key : Key) → IfSome (map.get reservations key) (IsStanding (length accounts))

-- the value of the accounts
abbrev pub contents : Inside → Contents
contents t = record { state = state_seen t.accounts.items t.reservations.of t.lines.items; spare = min (min (vec_capacity t.accounts - vec_len t.accounts) (vec_capacity t.lines - vec_len t.lines)) t.reservations.spare }

-- what holds of its fields
abbrev pub HasKept : Inside → Type 0
HasKept t = AreKept t.accounts.items t.reservations.of t.lines.items

-- this account is kept there
pub record IsRead (s : State) (account : ℕ) (one : Account) : Type 0 where
  pub known : account < length s.accounts
  pub topups : one.topups ≡ (numbers s account).topups
  pub taken : one.taken ≡ (numbers s account).taken
  pub owed : one.owed ≡ (numbers s account).owed
  pub reserved : one.reserved ≡ reserved s account
  pub within : one.reserved + one.taken ≤ one.topups
