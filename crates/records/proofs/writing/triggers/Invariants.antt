use Rattle.std.proofs.Common.{◌≡◌, length}
use Rattle.ber.specs.Written.{onto}
use Rattle.records.specs.Written.{each, trigger_element}
use Rattle.records.proofs.writing.triggers.Given as goal

abbrev pub invariant-loop-last : goal.invariant-loop-last
invariant-loop-last l = onto (each trigger_element l.left) l.out ≡ onto (each trigger_element l.initial.left) l.initial.out

abbrev pub decreases-loop-last : goal.decreases-loop-last
decreases-loop-last l = length l.left
