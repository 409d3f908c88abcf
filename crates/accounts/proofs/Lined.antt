-- The ledger has the lines of the charges.
use Rattle.std.proofs.Common.{◌≡◌, List, [], ◌∷◌, ◌++◌, refl, sym, ap, ◌∙◌}
use Rattle.accounts.specs.declared.line.Line.{Line}
use Rattle.accounts.specs.Ledger.{State}
use Rattle.accounts.specs.Moves.{Move, Added, ToppedUp, Charged, Reserved, Released, ReleasedAll, Expired, after, state_of}
use Rattle.accounts.specs.Lines.{line_of, LinesAreCharges}

none_more : (lines : List Line) → lines ≡ lines ++ []
none_more [] = refl
none_more (line ∷ lines) = ap (λ k. line ∷ k) (none_more lines)

one_more : (m : Move) (s : State) → (after m s).lines ≡ s.lines ++ line_of m
one_more Added s = none_more s.lines
one_more (ToppedUp account amount) s = none_more s.lines
one_more (Charged account session group lsn amount) s = refl
one_more (Reserved account session group amount deadline) s = none_more s.lines
one_more (Released session group) s = none_more s.lines
one_more (ReleasedAll session) s = none_more s.lines
one_more (Expired moment) s = none_more s.lines

pub lines_are_charges : LinesAreCharges
lines_are_charges [] = refl
lines_are_charges (m ∷ earlier) = one_more m (state_of earlier) ∙ ap (λ k. k ++ line_of m) (lines_are_charges earlier)
