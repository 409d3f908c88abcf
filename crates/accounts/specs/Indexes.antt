-- What the heap of deadlines and the chains of groups tell of the reservations: no public clause names these.
use Rattle.std.specs.Prelude.{◌≡◌, ℕ, Bool, true, List, Option, Some, Contains, slice_get, is_some}
use Rattle.accounts.specs.declared.reservation.Key.{Key}
use Rattle.accounts.specs.declared.due.Due.{Due}
use Rattle.accounts.specs.declared.groups.Groups.{Groups}
use Rattle.accounts.specs.Reservations.{at}
use Rattle.accounts.specs.Chains.{first_of, next_of, IsChained}

-- a deadline of a session and rating group
abbrev pub due_at : ℕ → ℕ → ℕ → Due
due_at deadline session group = record { deadline = deadline; session = session; group = group }

-- each deadline is due
abbrev pub AreDue : (Key → Option ℕ) → List Due → Type 0
AreDue deadline dues = (session group d : ℕ) → deadline (at session group) ≡ Some d → Contains dues (due_at d session group)

-- and the first that is due is a deadline
pub record IsQueued (deadline : Key → Option ℕ) (dues : List Due) : Type 0 where
  pub due : AreDue deadline dues
  pub first : (d : Due) → slice_get dues 0 ≡ Some d → deadline (at d.session d.group) ≡ Some d.deadline

-- each key that is there is linked
abbrev pub AreLinked : (Key → Bool) → Groups → Type 0
AreLinked there g = (session group : ℕ) → there (at session group) ≡ true → is_some (next_of g (at session group)) ≡ true

-- the latest group of a session is there
abbrev pub LatestIsThere : (Key → Bool) → Groups → ℕ → Type 0
LatestIsThere there g session = (group : ℕ) → first_of g session ≡ Some group → there (at session group) ≡ true

-- the chains are those of the keys that are there, and the latest of each is there
pub record IsGrouped (there : Key → Bool) (g : Groups) : Type 0 where
  pub chained : IsChained g
  pub linked : AreLinked there g
  pub latest : (session : ℕ) → LatestIsThere there g session
