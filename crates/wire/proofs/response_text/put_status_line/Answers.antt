use Rattle.std.proofs.Common.{append_assoc}
use Rattle.wire.specs.Texts.{status_line}
use Rattle.wire.proofs.response_text.put_status_line.Goals as goal

pub returns : goal.returns
unfolding status_line
returns c = simp (c.in_ok-extend_from_slice-5.ensures.items, c.in_ok-extend_from_slice-4.ensures.items, c.in_ok-extend_from_slice-3.ensures.items, c.in_ok-extend_from_slice-2.ensures.items, c.in_ok-extend_from_slice.ensures.items, c.as_bytes.ensures.value, c.as_bytes-2.ensures.value, c.as_str.ensures, c.phrase_of.ensures, append_assoc)
