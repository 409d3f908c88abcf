use Rattle.std.proofs.Common.{ap, ◌∙◌, arith}
use Rattle.records.specs.Book.{Records, session_of}
use Rattle.benchmarks.proofs.Begun.{others_missing}
use Rattle.benchmarks.proofs.close_turns.begun.Goals as goal

pub begin-requires-clause-fresh : goal.begin-requires-clause-fresh
begin-requires-clause-fresh c = ap (λ (r : Records). session_of r.sessions c.loop-session.session) c.make_room.ensures.records ∙ c.loop-session.invariant c.loop-session.session (omega arith)

pub loop-session-preserved : goal.loop-session-preserved
loop-session-preserved c = λ number more.
    ap (λ (r : Records). session_of r.sessions number) c.begin.ensures.records
    ∙ others_missing _ c.make_room.new.self.records.sessions number (λ same. omega arith) (ap (λ (r : Records). session_of r.sessions number) c.make_room.ensures.records ∙ c.loop-session.invariant number (omega arith))
