use Rattle.std.proofs.Common.{◌≡◌, []}
use Rattle.ber.specs.Tape.{row_seen}
use Rattle.records.specs.Reading.{over, with_unit_usage}
use Rattle.records.proofs.Over.{size}
use Rattle.records.proofs.reading.usages.Given as goal

abbrev pub invariant-loop-field : goal.invariant-loop-field
invariant-loop-field l = over with_unit_usage (l.all, l.count) (row_seen l.left) ≡ over with_unit_usage ([], l.fn.unknown) (row_seen l.fn.list)

abbrev pub decreases-loop-field : goal.decreases-loop-field
decreases-loop-field l = size (row_seen l.left)
