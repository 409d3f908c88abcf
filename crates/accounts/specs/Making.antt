-- Moves that are worked out first and made later: what they make of a state, and when they can be made (this
-- product's own).
use Rattle.std.specs.Prelude.{ℕ, ◌+◌, ◌-◌, ◌<◌, ◌^◌, ⊤, List, [], ◌∷◌, length}
use Rattle.accounts.specs.declared.moves.Move.{Move}
use Rattle.accounts.specs.declared.moves.Move.TheVariants.{Added, ToppedUp, Charged}
use Rattle.accounts.specs.Ledger.{State, numbers}
use Rattle.accounts.specs.Moves.{after, IsAllowed}

-- the state after moves, the first one first
abbrev pub made : List Move → State → State
made [] s = s
made (m ∷ moves) s = made moves (after m s)

-- a list of moves, the newest first, with these after them
abbrev pub onto : List Move → List Move → List Move
onto [] before = before
onto (m ∷ moves) before = onto moves (m ∷ before)

-- the sums that a move makes fit their types
abbrev pub Fits : State → Move → Type 0
Fits s Added = length s.accounts < 2 ^ 32 - 1
Fits s (ToppedUp account amount) = (numbers s account).topups + amount < 2 ^ 128
Fits s (Charged account session group lsn amount) =
    (numbers s account).taken + (numbers s account).owed + amount < 2 ^ 128
Fits s other = ⊤

-- each move is allowed where it is made, and its sums fit
abbrev pub AreMakeable : List Move → State → Type 0
AreMakeable [] s = ⊤
AreMakeable (m ∷ moves) s = (IsAllowed s m × Fits s m) × AreMakeable moves (after m s)
