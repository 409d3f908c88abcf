-- A reservation, and what happened since it was made (this product's own).
use Rattle.std.specs.Prelude.{◌≡◌, ℕ, ◌+◌, ◌-◌, ◌≤◌, ◌==◌, ◌&&◌, not, Bool, true, if◌then◌else◌, List, [], ◌∷◌, ◌++◌, Option, None}
use Rattle.std.specs.FinMap as map
use Rattle.accounts.specs.declared.reservation.Key.{Key}
use Rattle.accounts.specs.Reservations.{at, key_eq}
use Rattle.accounts.specs.Endings.{is_passed}
use Rattle.accounts.specs.Ledger.{left, uncovered}
use Rattle.accounts.specs.Moves.{Move, Charged, Reserved, Released, ReleasedAll, Expired, state_of}

-- what a move charges to a session and rating group
abbrev pub charge_of : Key → Move → ℕ
charge_of key (Charged account session group lsn amount) = if key_eq (at session group) key then amount else 0
charge_of key move = 0

-- what all these moves charge to it
abbrev pub charged : Key → List Move → ℕ
charged key [] = 0
charged key (m ∷ ms) = charged key ms + charge_of key m

-- whether a move neither releases nor replaces its reservation, nor is an expiry at or after this deadline
abbrev pub leaves : Key → Option ℕ → Move → Bool
leaves key deadline (Reserved account session group amount other) = not (key_eq (at session group) key)
leaves key deadline (Released session group) = not (key_eq (at session group) key)
leaves key deadline (ReleasedAll session) = not (key.session == session)
leaves key deadline (Expired moment) = not (is_passed moment deadline)
leaves key deadline move = true

-- none of the moves does
abbrev pub all_leave : Key → Option ℕ → List Move → Bool
all_leave key deadline [] = true
all_leave key deadline (m ∷ ms) = leaves key deadline m && all_leave key deadline ms

-- what is set aside and neither released nor expired since has left the amount less what was charged to it since
abbrev pub HasLeft : Type 0
HasLeft = (before later : List Move) (account session group amount : ℕ) (deadline : Option ℕ)
    → map.get (state_of before).reservations (at session group) ≡ None → all_leave (at session group) deadline later ≡ true
    → left (state_of (later ++ Reserved account session group amount deadline ∷ before)) (at session group) ≡ amount - charged (at session group) later

-- and while the charges since are together within the amount, no part of them is owed
abbrev pub OwesNothing : Type 0
OwesNothing = (before later : List Move) (account session group amount next : ℕ) (deadline : Option ℕ)
    → map.get (state_of before).reservations (at session group) ≡ None → all_leave (at session group) deadline later ≡ true
    → charged (at session group) later + next ≤ amount
    → uncovered (state_of (later ++ Reserved account session group amount deadline ∷ before)) account (at session group) next ≡ 0

-- whether a move sets nothing aside for a session and rating group
abbrev pub sets_nothing : Key → Move → Bool
sets_nothing key (Reserved account session group amount deadline) = not (key_eq (at session group) key)
sets_nothing key move = true

-- none of the moves sets anything aside for it
abbrev pub all_set_nothing : Key → List Move → Bool
all_set_nothing key [] = true
all_set_nothing key (m ∷ ms) = sets_nothing key m && all_set_nothing key ms

-- where it has no reservation and none was made since, there is none
abbrev pub HasNone : Type 0
HasNone = (before later : List Move) (key : Key)
    → map.get (state_of before).reservations key ≡ None → all_set_nothing key later ≡ true
    → map.get (state_of (later ++ before)).reservations key ≡ None
