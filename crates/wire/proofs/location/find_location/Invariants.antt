use Rattle.std.proofs.Common.{◌≡◌, drop, map}
use Rattle.httparse.specs.Spans.{header_bytes}
use Rattle.wire.specs.Responses.{location_in}
use Rattle.wire.proofs.location.find_location.Given as goal

abbrev pub invariant-loop-field : goal.invariant-loop-field
invariant-loop-field l = location_in (map (header_bytes l.fn.bytes) l.fn.fields) ≡ location_in (map (header_bytes l.fn.bytes) (drop l.field-index l.fn.fields))
