use Rattle.std.proofs.Common.{◌≤◌, All, subst}
use Rattle.accounts.specs.declared.due.Due.{Due}
use Rattle.accounts.specs.Due.{Queue}
use Rattle.accounts.proofs.Dues.{least}
use Rattle.accounts.proofs.due.Deadlines.first.Goals as goal

pub returns-in-Some-clause-least : goal.returns-in-Some-clause-least
returns-in-Some-clause-least c = subst (λ (q : Queue). All (λ (d : Due). ((c.in-Some.top.now).0).deadline ≤ d.deadline) q.dues) c.self.view_is (least c.in-Some.top.now _ (c.in-Some.ensures.greatest c.self.invariant))
