use Rattle.std.proofs.Common.{◌≡◌, ◌≤◌, length}
use Rattle.ber.specs.Octets.{digits_at}
use Rattle.ber.proofs.identifier.digits.Given as goal

abbrev pub invariant-loop-rest : goal.invariant-loop-rest
invariant-loop-rest l = (digits_at l.number l.rest ≡ digits_at 0 l.bytes) × (length l.rest ≤ length l.bytes)

abbrev pub decreases-loop-rest : goal.decreases-loop-rest
decreases-loop-rest l = length l.rest
