use Rattle.std.proofs.Common.{◌≡◌, take}
use Rattle.chf_rows.proofs.setup_rows.some_rows.Given as goal

abbrev pub invariant-loop-row : goal.invariant-loop-row
invariant-loop-row l = l.some ≡ take l.row-index l.rows
