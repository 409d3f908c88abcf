use Rattle.std.proofs.Common.{◌≡◌, List, ℕ, ◌+◌, ◌≤◌, ◌++◌, length, take, drop}
use Rattle.ber.specs.Element.{element, elements}
use Rattle.ber.specs.Written.{lengths_in, lengths_all, written_all}
use Rattle.ber.proofs.writing.+put.Given as goal

abbrev pub invariant-loop-child : goal.invariant-loop-child
invariant-loop-child l = record {
  others : (rest : List ℕ) → l.fn.lengths ≡ lengths_in (element l.fn.tlv) ++ rest → l.left ≡ lengths_all (elements (drop l.child-index l.child-items)) ++ rest;
  written : take l.place l.out ++ written_all (elements (drop l.child-index l.child-items)) ≡ take l.initial.place l.initial.out ++ written_all (elements l.child-items);
  end : l.place + length (written_all (elements (drop l.child-index l.child-items))) ≡ l.initial.place + length (written_all (elements l.child-items));
  size : length l.out ≡ length l.initial.out;
  fits : l.initial.place + length (written_all (elements l.child-items)) ≤ length l.initial.out;
}
