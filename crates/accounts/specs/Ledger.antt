-- The numbers of accounts, what is set aside from them, and the ledger (this product's own).
use Rattle.std.specs.Prelude.{ℕ, ◌-◌, ◌==◌, min, if◌then◌else◌, List, sum_by, slice_index_or, refl}
use Rattle.std.specs.Coded.{Coded, code_by, coded×, coded_ℕ, coded_list}
use Rattle.std.specs.FinMap as map
use Rattle.accounts.specs.declared.reservation.Key.{Key}
use Rattle.accounts.specs.declared.reservation.Reservation.{Reservation}
use Rattle.accounts.specs.declared.line.Line.{Line}
use Rattle.accounts.specs.Reservations.{ReservationMap, left_of, coded_key, coded_reservation}

-- an account: what was topped up, what was taken of it, and what is owed
pub record Numbers : Type 0 where
  pub topups : ℕ
  pub taken : ℕ
  pub owed : ℕ

-- a new account
abbrev pub nothing : Numbers
nothing = record { topups = 0; taken = 0; owed = 0 }

-- the accounts by number, the reservations, and the lines of the ledger, the oldest first
pub record State : Type 0 where
  pub accounts : List Numbers
  pub reservations : ReservationMap
  pub lines : List Line

-- the numbers of an account
abbrev pub numbers : State → ℕ → Numbers
numbers s account = slice_index_or s.accounts account nothing

-- its balance: its top-ups less what was taken
abbrev pub balance : State → ℕ → ℕ
balance s account = (numbers s account).topups - (numbers s account).taken

-- what is left of the reservation at a key
abbrev pub left : State → Key → ℕ
left s key = left_of (map.get s.reservations key)

-- what a reservation sets aside from an account
abbrev pub share : ℕ → Reservation → ℕ
share account r = if r.account == account then r.left else 0

-- what is set aside from an account: the sum of its reservations
abbrev pub reserved : State → ℕ → ℕ
reserved s account = sum_by (share account) (map.values s.reservations)

-- what is free: its balance less what is set aside
abbrev pub free : State → ℕ → ℕ
free s account = balance s account - reserved s account

-- the part of a line that an account was charged
abbrev pub line_share : ℕ → Line → ℕ
line_share account l = if l.account == account then l.amount else 0

-- what an account was charged: the sum of its lines
abbrev pub debits : List Line → ℕ → ℕ
debits lines account = sum_by (line_share account) lines

-- what a charge takes from its own reservation,
abbrev pub from_own : State → Key → ℕ → ℕ
from_own s key amount = min amount (left s key)

-- then from what is free,
abbrev pub from_free : State → ℕ → Key → ℕ → ℕ
from_free s account key amount = min (amount - left s key) (free s account)

-- and what is not covered
abbrev pub uncovered : State → ℕ → Key → ℕ → ℕ
uncovered s account key amount = amount - left s key - free s account

-- what callers see: the state, and for how many more moves there is a place
pub record Contents : Type 0 where
  pub state : State
  pub spare : ℕ

-- how these are coded, as a model asks: an account,
abbrev pub coded_numbers : Coded Numbers
coded_numbers = code_by (ℕ × (ℕ × ℕ)) (coded× coded_ℕ (coded× coded_ℕ coded_ℕ)) (λ n. (n.topups, (n.taken, n.owed))) (λ p. record { topups = p.0; taken = p.1.0; owed = p.1.1 }) (λ _. refl)

-- a line,
abbrev pub coded_line : Coded Line
coded_line = code_by (ℕ × (ℕ × (ℕ × ℕ))) (coded× coded_ℕ (coded× coded_ℕ (coded× coded_ℕ coded_ℕ))) (λ n. (n.account, (n.session, (n.lsn, n.amount)))) (λ p. record { account = p.0; session = p.1.0; lsn = p.1.1.0; amount = p.1.1.1 }) (λ _. refl)

-- the state,
abbrev pub coded_state : Coded State
coded_state = code_by (List Numbers × (ReservationMap × List Line)) (coded× (coded_list coded_numbers) (coded× (map.code coded_key coded_reservation) (coded_list coded_line)))
    (λ s. (s.accounts, (s.reservations, s.lines))) (λ p. record { accounts = p.0; reservations = p.1.0; lines = p.1.1 }) (λ _. refl)

-- and what callers see
abbrev pub coded_contents : Coded Contents
coded_contents = code_by (State × ℕ) (coded× coded_state coded_ℕ) (λ c. (c.state, c.spare)) (λ p. record { state = p.0; spare = p.1 }) (λ _. refl)
