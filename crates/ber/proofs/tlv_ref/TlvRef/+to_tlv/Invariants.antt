use Rattle.std.proofs.Common.{◌≡◌}
use Rattle.ber.specs.Element.{elements, joined}
use Rattle.ber.specs.Tape.{seen, row_seen}
use Rattle.ber.proofs.Nodes.{element_count, elements_count}
use Rattle.ber.proofs.tlv_ref.TlvRef.+to_tlv.Given as goal

abbrev pub decreases-to_tlv : goal.decreases-to_tlv
decreases-to_tlv l = element_count (seen l.self.now)

abbrev pub invariant-loop-child : goal.invariant-loop-child
invariant-loop-child l = joined (elements l.copies.items) (row_seen l.left) ≡ row_seen l.initial.left

abbrev pub decreases-loop-child : goal.decreases-loop-child
decreases-loop-child l = elements_count (row_seen l.left)
