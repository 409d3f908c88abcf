use Rattle.std.proofs.Common.{◌≤◌, length}
use Rattle.std.specs.HashMap.{get}
use Rattle.accounts.specs.Reservations.{key_eq}
use Rattle.accounts.specs.Deadlines.{deadline_of}
use Rattle.accounts.specs.Indexes.{AreDue}
use Rattle.accounts.proofs.reservations.settle_due.Given as goal

abbrev pub invariant-loop-first : goal.invariant-loop-first
invariant-loop-first l = AreDue (λ k. deadline_of (get key_eq l.table k)) l.due.dues × (l.fn.due.spare ≤ l.due.spare)

abbrev pub decreases-loop-first : goal.decreases-loop-first
decreases-loop-first l = length l.due.dues
