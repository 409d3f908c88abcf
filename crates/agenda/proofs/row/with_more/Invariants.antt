use Rattle.std.proofs.Common.{◌≡◌, ◌++◌, replicate}
use Rattle.agenda.specs.Marks.{quiet}
use Rattle.agenda.proofs.row.with_more.Given as goal

abbrev pub invariant-loop-at : goal.invariant-loop-at
invariant-loop-at l = l.marks.items ≡ l.row ++ replicate l.at quiet
