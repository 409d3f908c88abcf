use Rattle.std.proofs.Common.{◌≡◌, length}
use Rattle.edge.specs.EpochText.{epoch_from}
use Rattle.edge.proofs.epoch_text.epoch_in.Given as goal

abbrev pub invariant-loop-rest : goal.invariant-loop-rest
invariant-loop-rest l = epoch_from l.epoch l.rest ≡ epoch_from 0 l.text

abbrev pub decreases-loop-rest : goal.decreases-loop-rest
decreases-loop-rest l = length l.rest
