use Rattle.std.proofs.Common.{◌≡◌, length}
use Rattle.ber.specs.Octets.{value_at}
use Rattle.ber.proofs.length.value.Given as goal

abbrev pub invariant-loop-rest : goal.invariant-loop-rest
invariant-loop-rest l = value_at l.number l.rest ≡ value_at 0 l.octets

abbrev pub decreases-loop-rest : goal.decreases-loop-rest
decreases-loop-rest l = length l.rest
