use Rattle.std.proofs.Common.{◌≡◌, ◌-◌, drop, length}
use Rattle.agenda.specs.Rows.{found_in}
use Rattle.agenda.proofs.agenda.found_down.Given as goal

abbrev pub invariant-loop-step : goal.invariant-loop-step
invariant-loop-step l = l.found.items ≡ found_in l.search (drop (length l.rows - l.step) l.rows)
