-- What may happen to the accounts, and the state after it (this product's own).
use Rattle.std.specs.Prelude.{◌≡◌, ℕ, ◌+◌, ◌-◌, ◌<◌, ◌≤◌, ◌==◌, nat_le, min, ⊤, if◌then◌else◌, List, [], ◌∷◌, ◌++◌, length, Option, Some, None, IfSome, slice_set}
use Rattle.std.specs.FinMap as map
use Rattle.accounts.specs.declared.reservation.Key.{Key}
use Rattle.accounts.specs.declared.reservation.Reservation.{Reservation}
use Rattle.accounts.specs.Endings.{Session, Until}
use Rattle.accounts.specs.Reservations.{ReservationMap, at}
use Rattle.accounts.specs.Endings.{without}
use Rattle.accounts.specs.Ledger.{Numbers, State, nothing, numbers, free, from_own, from_free, uncovered}
-- the moves, as the code has them; a Reserved is one that was not refused
pub use Rattle.accounts.specs.declared.moves.Move.{Move}
pub use Rattle.accounts.specs.declared.moves.Move.TheVariants.{Added, ToppedUp, Charged, Reserved, Released, ReleasedAll, Expired}

-- a top-up pays what is owed first
abbrev pub topped_up : Numbers → ℕ → Numbers
topped_up n amount = record { topups = n.topups + amount; taken = n.taken + min amount n.owed; owed = n.owed - amount }

-- a charge takes what is covered, and the rest is owed
abbrev pub debited : Numbers → ℕ → ℕ → Numbers
debited n covered uncovered = record { topups = n.topups; taken = n.taken + covered; owed = n.owed + uncovered }

-- a reservation of which nothing is left is none
abbrev pub lessened_at : ReservationMap → Key → ℕ → Option Reservation → ReservationMap
lessened_at m key amount None = m
lessened_at m key amount (Some r) = if nat_le r.left amount then map.remove m key else map.insert m key (record { account = r.account; left = r.left - amount; deadline = r.deadline })

-- the reservations after an amount was taken from the one at a key
abbrev pub lessened : ReservationMap → Key → ℕ → ReservationMap
lessened m key amount = lessened_at m key amount (map.get m key)

-- the state after a move
abbrev pub after : Move → State → State
after Added s = record s { accounts = s.accounts ++ nothing ∷ [] }
after (ToppedUp account amount) s = record s { accounts = slice_set s.accounts account (topped_up (numbers s account) amount) }
after (Charged account session group lsn amount) s = record s {
  accounts = slice_set s.accounts account (debited (numbers s account) (from_own s (at session group) amount + from_free s account (at session group) amount) (uncovered s account (at session group) amount));
  reservations = lessened s.reservations (at session group) amount;
  lines = s.lines ++ record { account = account; session = session; lsn = lsn; amount = amount } ∷ [];
}
after (Reserved account session group amount deadline) s =
    record s { reservations = if amount == 0 then s.reservations else map.insert s.reservations (at session group) (record { account = account; left = amount; deadline = deadline }) }
after (Released session group) s = record s { reservations = map.remove s.reservations (at session group) }
after (ReleasedAll session) s = record s { reservations = without s.reservations (Session session) }
after (Expired moment) s = record s { reservations = without s.reservations (Until moment) }

-- before any move
abbrev pub empty_state : State
empty_state = record { accounts = []; reservations = map.empty; lines = [] }

-- the state after a list of moves, the newest first
abbrev pub state_of : List Move → State
state_of [] = empty_state
state_of (m ∷ ms) = after m (state_of ms)

-- when a move may be made: what the calls require, and do not refuse
abbrev pub IsAllowed : State → Move → Type 0
IsAllowed s (ToppedUp account amount) = account < length s.accounts
IsAllowed s (Charged account session group lsn amount) = (account < length s.accounts) × IfSome (map.get s.reservations (at session group)) (λ r. r.account ≡ account)
IsAllowed s (Reserved account session group amount deadline) = (account < length s.accounts) × (map.get s.reservations (at session group) ≡ None) × (amount ≤ free s account)
IsAllowed s move = ⊤

-- each move of the list was allowed where it was made
abbrev pub AreAllowed : List Move → Type 0
AreAllowed [] = ⊤
AreAllowed (m ∷ ms) = IsAllowed (state_of ms) m × AreAllowed ms
