-- How the rating groups of a session are chained: no public clause names these.
use Rattle.std.specs.Prelude.{◌≡◌, ℕ, ◌==◌, ◌&&◌, ◌||◌, not, Bool, true, false, List, [], ◌∷◌, Option, Some, None, is_some}
use Rattle.std.specs.HashMap.{get}
use Rattle.std.specs.Option.{option_flatten}
use Rattle.accounts.specs.declared.reservation.Key.{Key}
use Rattle.accounts.specs.declared.groups.Groups.{Groups}
use Rattle.accounts.specs.Reservations.{at, key_eq}

-- the latest group of a session
abbrev pub first_of : Groups → ℕ → Option ℕ
first_of g session = get ◌==◌ g.first session

-- whether a key is linked, and the group after it
abbrev pub next_of : Groups → Key → Option (Option ℕ)
next_of g key = get key_eq g.next key

-- whether a group is among these
abbrev pub among : ℕ → List ℕ → Bool
among group [] = false
among group (g ∷ gs) = g == group || among group gs

-- no group is there twice
abbrev pub are_apart : List ℕ → Bool
are_apart [] = true
are_apart (g ∷ gs) = not (among g gs) && are_apart gs

-- from this group on, these follow one another
abbrev pub Follow : (Key → Option (Option ℕ)) → ℕ → Option ℕ → List ℕ → Type 0
Follow next session first [] = first ≡ None
Follow next session first (g ∷ gs) = (first ≡ Some g) × Follow next session (option_flatten (next (at session g))) gs

-- these are the linked groups of a session, from the latest on
pub record IsChain (next : Key → Option (Option ℕ)) (session : ℕ) (first : Option ℕ) (groups : List ℕ) : Type 0 where
  pub follow : Follow next session first groups
  pub apart : are_apart groups ≡ true
  pub linked : (group : ℕ) → is_some (next (at session group)) ≡ among group groups

-- each session has such a chain
abbrev pub AreChained : (ℕ → Option ℕ) → (Key → Option (Option ℕ)) → Type 0
AreChained first next = (session : ℕ) → (groups : List ℕ) × IsChain next session (first session) groups

-- so in these tables
abbrev pub IsChained : Groups → Type 0
IsChained g = AreChained (first_of g) (next_of g)
