use Rattle.std.proofs.Common.{◌≡◌, []}
use Rattle.ber.specs.Tape.{row_seen}
use Rattle.records.specs.Usage.{unit_usage}
use Rattle.records.specs.Reading.{over, with_usage_field}
use Rattle.records.proofs.Over.{size}
use Rattle.records.proofs.reading.usage.Given as goal

abbrev pub invariant-loop-field : goal.invariant-loop-field
invariant-loop-field l = over with_usage_field l.read (row_seen l.left) ≡ over with_usage_field (unit_usage 0 [], l.fn.unknown) (row_seen l.fn.fields)

abbrev pub decreases-loop-field : goal.decreases-loop-field
decreases-loop-field l = size (row_seen l.left)
