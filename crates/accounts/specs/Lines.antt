-- Which lines the ledger has (this product's own).
use Rattle.std.specs.Prelude.{◌≡◌, List, [], ◌∷◌, ◌++◌}
use Rattle.accounts.specs.declared.line.Line.{Line}
use Rattle.accounts.specs.Moves.{Move, Charged, state_of}

-- the line of a move: a charge has one
abbrev pub line_of : Move → List Line
line_of (Charged account session group lsn amount) = record { account = account; session = session; lsn = lsn; amount = amount } ∷ []
line_of move = []

-- the lines of a list of moves, whose newest comes first: the oldest line first
abbrev pub lines_of : List Move → List Line
lines_of [] = []
lines_of (move ∷ earlier) = lines_of earlier ++ line_of move

-- after every list of moves the ledger has a line for each charge, the oldest first, and no other
abbrev pub LinesAreCharges : Type 0
LinesAreCharges = (moves : List Move) → (state_of moves).lines ≡ lines_of moves
