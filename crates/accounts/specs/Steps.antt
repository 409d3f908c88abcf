-- What one move does to what is free on an account and what is left of a reservation (this product's own).
use Rattle.std.specs.Prelude.{◌≡◌, ◌≢◌, ℕ, ◌+◌, ◌-◌, ◌<◌, Bool, true, false, List, length, Option, None, IfSome}
use Rattle.std.specs.FinMap as map
use Rattle.accounts.specs.declared.reservation.Key.{Key}
use Rattle.accounts.specs.Reservations.{at, key_eq}
use Rattle.accounts.specs.Ledger.{State, free, left}
use Rattle.accounts.specs.Moves.{Move, Charged, Reserved, Released, after, state_of, IsAllowed}
use Rattle.accounts.specs.Balanced.{IsBalanced}

-- all that is free on other accounts, and left of other reservations, stays
pub record LeavesOthers (s : State) (m : Move) (account : ℕ) (key : Key) : Type 0 where
  pub free : (other : ℕ) → other ≢ account → free (after m s) other ≡ free s other
  pub left : (other : Key) → key_eq key other ≡ false → left (after m s) other ≡ left s other

-- a charge takes what its own reservation does not cover from what is free
pub record ChargeTakes (s : State) (m : Move) (account : ℕ) (key : Key) (amount : ℕ) : Type 0 where
  pub free : free (after m s) account ≡ free s account - (amount - left s key)
  pub left : left (after m s) key ≡ left s key - amount
  pub others : LeavesOthers s m account key

-- so does each, where the account is there and in balance, and its own reservation is of it
abbrev pub ChargesTake : Type 0
ChargesTake = (s : State) (account session group lsn amount : ℕ) → account < length s.accounts
    → IfSome (map.get s.reservations (at session group)) (λ r. r.account ≡ account) → IsBalanced s account
    → ChargeTakes s (Charged account session group lsn amount) account (at session group) amount

-- a reservation takes its amount from what is free
pub record ReserveTakes (s : State) (m : Move) (account : ℕ) (key : Key) (amount : ℕ) : Type 0 where
  pub free : free (after m s) account ≡ free s account - amount
  pub left : left (after m s) key ≡ amount
  pub others : LeavesOthers s m account key

-- so does each, where there was none
abbrev pub ReservesTake : Type 0
ReservesTake = (s : State) (account session group amount : ℕ) (deadline : Option ℕ)
    → map.get s.reservations (at session group) ≡ None
    → ReserveTakes s (Reserved account session group amount deadline) account (at session group) amount

-- a release gives back what was left
pub record ReleaseGives (s : State) (m : Move) (account : ℕ) (key : Key) : Type 0 where
  pub free : free (after m s) account ≡ free s account + left s key
  pub left : left (after m s) key ≡ 0
  pub others : LeavesOthers s m account key

-- so does each, where the account is in balance and the reservation is of it
abbrev pub ReleasesGive : Type 0
ReleasesGive = (s : State) (account session group : ℕ)
    → IfSome (map.get s.reservations (at session group)) (λ r. r.account ≡ account) → IsBalanced s account
    → ReleaseGives s (Released session group) account (at session group)

-- an account stays in balance with each move that is allowed
abbrev pub BalanceStays : Type 0
BalanceStays = (s : State) (m : Move) (account : ℕ) → IsAllowed s m → IsBalanced s account → IsBalanced (after m s) account

-- each reservation is of an account that the test allows for its session and rating group
abbrev pub AreOwned : (Key → ℕ → Bool) → State → Type 0
AreOwned owner s = (key : Key) → IfSome (map.get s.reservations key) (λ r. owner key r.account ≡ true)

-- whether a move makes no other
abbrev pub keeps_owners : (Key → ℕ → Bool) → Move → Bool
keeps_owners owner (Reserved account session group amount deadline) = owner (at session group) account
keeps_owners owner move = true

-- so it stays with each move that makes no other
abbrev pub OwnersStay : Type 0
OwnersStay = (owner : Key → ℕ → Bool) (s : State) (m : Move) → AreOwned owner s → keeps_owners owner m ≡ true → AreOwned owner (after m s)

-- and after every list of moves something is left of each reservation
abbrev pub SomeIsLeft : Type 0
SomeIsLeft = (moves : List Move) (key : Key) → IfSome (map.get (state_of moves).reservations key) (λ r. 0 < r.left)
