use Rattle.std.proofs.Common.{append_assoc}
use Rattle.wire.specs.Texts.{request_line}
use Rattle.wire.proofs.request_text.put_request_line.Goals as goal

pub returns : goal.returns
unfolding request_line
returns c = simp (c.in_ok-extend_from_slice-3.ensures.items, c.in_ok-extend_from_slice-2.ensures.items, c.in_ok-extend_from_slice.ensures.items, c.as_bytes.ensures.value, append_assoc)
