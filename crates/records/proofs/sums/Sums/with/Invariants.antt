use Rattle.std.proofs.Common.{◌≡◌, drop}
use Rattle.records.specs.Sums.{sums_with}
use Rattle.records.proofs.Summed.{AreWithin}
use Rattle.records.proofs.sums.Sums.with.Given as goal

abbrev pub invariant-loop-container : goal.invariant-loop-container
invariant-loop-container l = record {
  is : sums_with l.sums (drop l.container-index l.used) ≡ sums_with l.fn.self l.used;
  within : AreWithin l.sums;
}
