-- Which reservations a release of a session, or the time, ends (this product's own).
use Rattle.std.specs.Prelude.{◌≡◌, ℕ, ◌-◌, ◌==◌, nat_le, not, cond, Bool, true, false, Option, Some, None}
use Rattle.std.proofs.Common.{ap, sym}
use Rattle.std.specs.FinMap as map
use Rattle.accounts.specs.declared.reservation.Key.{Key}
use Rattle.accounts.specs.declared.reservation.Reservation.{Reservation}
use Rattle.accounts.specs.Reservations.{ReservationMap, keys_exact}

-- what ends reservations: the release of a session, or the time, up to a moment
pub data Ending : Type 0 where
  Session : (session : ℕ) → Ending
  Until : (moment : ℕ) → Ending

-- whether a deadline, if there is one, is at most the moment
abbrev pub is_passed : ℕ → Option ℕ → Bool
is_passed moment None = false
is_passed moment (Some deadline) = nat_le deadline moment

-- whether a reservation is one of the session, or one whose deadline has passed
abbrev pub is_ending : Ending → Key → Reservation → Bool
is_ending (Session session) key r = key.session == session
is_ending (Until moment) key r = is_passed moment r.deadline

-- the same of what stands at a key
abbrev pub ends : Ending → Key → Option Reservation → Bool
ends ending key None = false
ends ending key (Some r) = is_ending ending key r

-- this key's reservation ends, or none does
abbrev pub IsOneEnding : ReservationMap → Ending → Option Key → Type 0
IsOneEnding m ending None = (key : Key) → ends ending key (map.get m key) ≡ false
IsOneEnding m ending (Some key) = ends ending key (map.get m key) ≡ true

-- the reservations that stay
abbrev pub without : ReservationMap → Ending → ReservationMap
without m ending = map.retain_keys m (λ key. not (ends ending key (map.get m key)))

-- what then stands at a key: its reservation, unless that ends
pub without_at : (m : ReservationMap) (ending : Ending) (key : Key) → map.get (without m ending) key ≡ cond (not (ends ending key (map.get m key))) (map.get m key) None
without_at m ending key = map.get-retain_keys m (λ k. not (ends ending k (map.get m k))) key (λ other same. ap (λ k. not (ends ending k (map.get m k))) (sym (keys_exact key other same)))

-- how many end
abbrev pub count_ending : ReservationMap → Ending → ℕ
count_ending m ending = map.len m - map.len (without m ending)
