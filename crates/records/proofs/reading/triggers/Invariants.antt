use Rattle.std.proofs.Common.{◌≡◌, []}
use Rattle.ber.specs.Tape.{row_seen}
use Rattle.records.specs.Reading.{over, with_trigger}
use Rattle.records.proofs.Over.{size}
use Rattle.records.proofs.reading.triggers.Given as goal

abbrev pub invariant-loop-kind : goal.invariant-loop-kind
invariant-loop-kind l = over with_trigger l.all (row_seen l.left) ≡ over with_trigger [] (row_seen l.fn.kinds)

abbrev pub decreases-loop-kind : goal.decreases-loop-kind
decreases-loop-kind l = size (row_seen l.left)
