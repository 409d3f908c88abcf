-- The deadlines of reservations (this product's own).
use Rattle.std.specs.Prelude.{◌≡◌, ℕ, ◌≤◌, Option, Some, None}
use Rattle.std.specs.FinMap as map
use Rattle.accounts.specs.declared.reservation.Key.{Key}
use Rattle.accounts.specs.declared.reservation.Reservation.{Reservation}
use Rattle.accounts.specs.Reservations.{ReservationMap}

-- the deadline of a reservation, if it has one
abbrev pub deadline_of : Option Reservation → Option ℕ
deadline_of None = None
deadline_of (Some r) = r.deadline

-- that of the reservation at a key
abbrev pub deadline_at : ReservationMap → Key → Option ℕ
deadline_at m key = deadline_of (map.get m key)

-- no reservation has a deadline, or one has this and none an earlier one
abbrev pub IsLeast : ReservationMap → Option ℕ → Type 0
IsLeast m None = (key : Key) → deadline_at m key ≡ None
IsLeast m (Some least) = ((key : Key) × (deadline_at m key ≡ Some least)) × ((key : Key) (deadline : ℕ) → deadline_at m key ≡ Some deadline → least ≤ deadline)
