use Rattle.std.proofs.Common.{ℕ, List}
use Rattle.durable.specs.Held.{IsHeld}
use Rattle.acceptance.proofs.lists.steps.Given as goal

abbrev pub invariant-loop-word : goal.invariant-loop-word
invariant-loop-word g l =
    (goal.iterator-loop-word g).can_next l.word-iterator ×
    (goal.iterator-loop-word g).is_finite l.word-iterator ×
    ((list : List (List ℕ)) × IsHeld l.held (g.D.Disk.content l.disk) (g.D.Disk.told_epoch l.disk) (g.D.Disk.is_image l.disk) list)
