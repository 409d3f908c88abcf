use Rattle.std.proofs.Common.{◌≡◌}
use Rattle.ber.specs.Tape.{row_seen}
use Rattle.records.specs.Reading.{over, with_session}
use Rattle.records.proofs.Over.{size}
use Rattle.records.proofs.reading.session.Given as goal

abbrev pub invariant-loop-field : goal.invariant-loop-field
invariant-loop-field l = over with_session l.read (row_seen l.left) ≡ over with_session (0, l.fn.unknown) (row_seen l.fn.fields)

abbrev pub decreases-loop-field : goal.decreases-loop-field
decreases-loop-field l = size (row_seen l.left)
