use Rattle.std.proofs.Common.{◌≡◌, drop}
use Rattle.wire.specs.Fields.{with_digits}
use Rattle.wire.proofs.length.read_length.Given as goal

abbrev pub invariant-loop-digit : goal.invariant-loop-digit
invariant-loop-digit l = with_digits 0 l.value ≡ with_digits l.number (drop l.digit-index l.value)
