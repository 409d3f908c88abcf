-- What one event gives up as too much: the oldest waiting containers beyond the greatest number (this product's own).
use Rattle.std.specs.Prelude.{◌≡◌, ◌⊎◌, ◌↔◌, ℕ, ◌-◌, ◌<◌, Some, List, [], ◌∷◌, ◌++◌, map}
use Rattle.sessions.specs.Trace.{Move, given_up, IsWaiting}
use Rattle.sessions.specs.Trace.Move.{Drops}
use Rattle.sessions.specs.Trace.Cause.{HeldFull}
use Rattle.smf_model.specs.Contents.{waiting_to}

-- no container with a greater number waits
abbrev pub NoneWaitsAfter : List Move → ℕ → Type 0
NoneWaitsAfter trace last = (lsn : ℕ) → last < lsn → IsWaiting trace lsn → ⊥

-- how many wait whose numbers are from the one to the other
abbrev pub waiting_between : List Move → ℕ → ℕ → ℕ
waiting_between trace first last = waiting_to trace last - waiting_to trace (first - 1)

-- a container is given up as too much where it was before, or where it waits after the freezing and more than so many wait whose numbers are at least its own
abbrev pub GivesUpBeyond : ℕ → List Move → List Move → Type 0
GivesUpBeyond most frozen after =
    (last lsn : ℕ) → NoneWaitsAfter frozen last → 0 < lsn
    → (given_up after lsn ≡ Some HeldFull) ↔ ((given_up frozen lsn ≡ Some HeldFull) ⊎ (IsWaiting frozen lsn × (most < waiting_between frozen lsn last)))

-- moves give up nothing as too much
abbrev pub DropsNone : List Move → Type 0
DropsNone [] = Unit {0}
DropsNone (Drops lsn ∷ moves) = ⊥
DropsNone (move ∷ moves) = DropsNone moves

-- the moves of an event: those up to its freezing, and then what is given up as too much
pub record EndsEvent (most : ℕ) (before after : List Move) : Type 0 where
  pub moves : List Move
  pub dropped : List ℕ
  pub is : after ≡ map Drops dropped ++ (moves ++ before)
  pub drops_none : DropsNone moves
  pub beyond : GivesUpBeyond most (moves ++ before) after
