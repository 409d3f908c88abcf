use Rattle.std.proofs.Common.{length, ap, arith}
use Rattle.records.specs.Seen.{BookSeen, sessions_seen}
use Rattle.records.proofs.Closable.{at_most}
use Rattle.records.proofs.book.Book.closable.Goals as goal

pub returns-clause-bound : goal.returns-clause-bound
returns-clause-bound c = omega (arith, at_most (sessions_seen c.self.inside.sessions.items), c.self.invariant.4, ap (λ (b : BookSeen). length b.records.sessions) c.self.view_is)
