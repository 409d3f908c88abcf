use Rattle.std.proofs.Common.{◌≡◌}
use Rattle.ber.specs.Tape.{row_seen}
use Rattle.records.specs.Reading.{over, with_field, no_record}
use Rattle.records.proofs.Over.{size}
use Rattle.records.proofs.reading.fields.Given as goal

abbrev pub invariant-loop-field : goal.invariant-loop-field
invariant-loop-field l = over with_field l.read (row_seen l.left) ≡ over with_field (no_record, 0) (row_seen l.fn.row)

abbrev pub decreases-loop-field : goal.decreases-loop-field
decreases-loop-field l = size (row_seen l.left)
