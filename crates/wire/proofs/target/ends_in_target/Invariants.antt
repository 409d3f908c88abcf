use Rattle.std.proofs.Common.{◌≡◌, fold, take}
use Rattle.wire.specs.Target.{step}
use Rattle.wire.specs.declared.target.Place.TheVariants.{Start}
use Rattle.wire.proofs.target.ends_in_target.Given as goal

abbrev pub invariant-loop-byte : goal.invariant-loop-byte
invariant-loop-byte l = l.place ≡ fold step Start (take l.byte-index l.bytes)
