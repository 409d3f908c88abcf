use Rattle.std.proofs.Common.{◌≡◌, drop, map}
use Rattle.httparse.specs.Spans.{header_bytes}
use Rattle.wire.specs.Fields.{has_field}
use Rattle.wire.proofs.length.has_name.Given as goal

abbrev pub invariant-loop-field : goal.invariant-loop-field
invariant-loop-field l = has_field l.fn.name (map (header_bytes l.fn.bytes) l.fn.fields) ≡ has_field l.fn.name (map (header_bytes l.fn.bytes) (drop l.field-index l.fn.fields))
