use Rattle.std.proofs.Common.{◌≡◌, ◌*◌, ◌++◌, drop}
use Rattle.agenda.specs.Rows.{halved}
use Rattle.agenda.proofs.row.halve.Given as goal

abbrev pub invariant-loop-at : goal.invariant-loop-at
invariant-loop-at l = l.half.items ++ halved (drop (2 * l.at) l.row) ≡ halved l.row
