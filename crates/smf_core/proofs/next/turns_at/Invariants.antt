use Rattle.std.proofs.Common.{drop}
use Rattle.smf_model.specs.Machine.{next_session}
use Rattle.smf_core.specs.Caches.{sessions_of}
use Rattle.smf_core.proofs.Several.{IsTurned}
use Rattle.smf_core.proofs.next.turns_at.Given as goal

abbrev pub invariant-loop-at : goal.invariant-loop-at
invariant-loop-at l = IsTurned (next_session l.setup l.now l.event) (sessions_of l.fn.sessions) l.places (drop l.at-index l.places) l.turns.items l.sessions
