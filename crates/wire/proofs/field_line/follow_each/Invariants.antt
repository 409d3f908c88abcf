use Rattle.std.proofs.Common.{◌+◌, take}
use Rattle.wire.specs.FieldLines.{EndsIn}
use Rattle.wire.proofs.field_line.follow_each.Given as goal

abbrev pub invariant-loop-byte : goal.invariant-loop-byte
invariant-loop-byte l = EndsIn l.had (take (l.had + l.byte-index) l.bytes) l.line
