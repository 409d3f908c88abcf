use Rattle.std.proofs.Common.{◌≡◌, ◌+◌, ◌∷◌, [], ◌++◌, length, drop}
use Rattle.ber.specs.Element.{elements}
use Rattle.ber.specs.Written.{lengths_all, written_all}
use Rattle.ber.proofs.measuring.+measure.Given as goal

abbrev pub invariant-loop-child : goal.invariant-loop-child
invariant-loop-child l = record {
  count : l.count + length (written_all (elements (drop l.child-index l.child-items))) ≡ length (written_all (elements l.child-items));
  lengths : l.lengths.items ++ lengths_all (elements (drop l.child-index l.child-items)) ≡ (l.fn.lengths.items ++ 0 ∷ []) ++ lengths_all (elements l.child-items);
}
