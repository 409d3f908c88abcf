use Rattle.std.proofs.Common.{◌≡◌, ◌++◌, drop}
use Rattle.agenda.specs.Rows.{spread}
use Rattle.agenda.proofs.row.found_under.Given as goal

abbrev pub invariant-loop-at : goal.invariant-loop-at
invariant-loop-at l = l.found.items ++ spread l.search l.row (drop l.at-index l.above) ≡ spread l.search l.row l.above
