use Rattle.std.proofs.Common.{◌≡◌, None, drop, map}
use Rattle.httparse.specs.Spans.{header_bytes}
use Rattle.wire.specs.Fields.{length_after}
use Rattle.wire.proofs.length.stated_length.Given as goal

abbrev pub invariant-loop-field : goal.invariant-loop-field
invariant-loop-field l = length_after None (map (header_bytes l.fn.bytes) l.fn.fields) ≡ length_after l.had (map (header_bytes l.fn.bytes) (drop l.field-index l.fn.fields))
