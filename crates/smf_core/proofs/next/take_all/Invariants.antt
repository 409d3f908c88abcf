use Rattle.std.proofs.Common.{◌≡◌, vec_len}
use Rattle.smf_core.specs.Caches.{sessions_of}
use Rattle.smf_core.specs.Marking.{marks_of}
use Rattle.smf_core.specs.Plan.{turned, AreReady}
use Rattle.smf_core.proofs.next.take_all.Given as goal

abbrev pub invariant-loop-turn : goal.invariant-loop-turn
invariant-loop-turn l = record {
  all : turned l.turns.items (sessions_of l.sessions) ≡ turned l.fn.turns (sessions_of l.fn.sessions);
  ready : AreReady l.turns.items l.sessions;
  marks : l.agenda.marks ≡ marks_of l.setup l.now (sessions_of l.sessions);
  room : l.agenda.room ≡ l.fn.agenda.room;
}

abbrev pub decreases-loop-turn : goal.decreases-loop-turn
decreases-loop-turn l = vec_len l.turns
