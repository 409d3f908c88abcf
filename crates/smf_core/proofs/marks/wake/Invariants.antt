use Rattle.std.proofs.Common.{◌≡◌, drop, length}
use Rattle.smf_core.specs.Caches.{sessions_of}
use Rattle.smf_core.specs.Marking.{marks_of, remarked}
use Rattle.smf_core.proofs.marks.wake.Given as goal

abbrev pub invariant-loop-at : goal.invariant-loop-at
invariant-loop-at l = record {
  marks : remarked (marks_of l.setup l.now (sessions_of l.sessions)) (drop l.at-index l.places) l.agenda.marks ≡ remarked (marks_of l.setup l.now (sessions_of l.sessions)) l.places l.fn.agenda.marks;
  long : length l.agenda.marks ≡ length l.sessions;
  room : l.agenda.room ≡ l.fn.agenda.room;
}
