use Rattle.std.proofs.Common.{List, length, ap, arith}
use Rattle.records.specs.declared.session.SessionKept.{SessionKept}
use Rattle.records.specs.Seen.{BookSeen, sessions_seen}
use Rattle.records.proofs.Closable.{at_most}
use Rattle.records.proofs.book.Book.close_all.Goals as goal

pub overflow_cast-result : goal.overflow_cast-result
overflow_cast-result c = omega (arith, at_most (sessions_seen c.self.inside.sessions.items), c.self.invariant.4, c.requires.few, ap (λ (b : BookSeen). length b.records.sessions) c.self.view_is)

pub sweep_all-requires-clause-spare : goal.sweep_all-requires-clause-spare
sweep_all-requires-clause-spare c =
    omega (arith, at_most (sessions_seen c.deref_mut.result.now), ap (λ (zs : List SessionKept). length (sessions_seen zs)) c.deref_mut.ensures.value, c.requires.spare, ap (λ (b : BookSeen). b.spare) c.self.view_is, ap (λ (b : BookSeen). length b.records.sessions) c.self.view_is, ap (λ (b : BookSeen). length b.records.closed) c.self.view_is)

pub sweep_all-requires-clause-few : goal.sweep_all-requires-clause-few
sweep_all-requires-clause-few c =
    omega (arith, at_most (sessions_seen c.deref_mut.result.now), ap (λ (zs : List SessionKept). length (sessions_seen zs)) c.deref_mut.ensures.value, c.requires.few, ap (λ (b : BookSeen). b.spare) c.self.view_is, ap (λ (b : BookSeen). length b.records.sessions) c.self.view_is, ap (λ (b : BookSeen). length b.records.closed) c.self.view_is)
