use Rattle.std.proofs.Common.{◌≡◌, ◌≤◌, ◌-◌, false, length}
use Rattle.wire.specs.Held.{HasTaken}
use Rattle.wire.proofs.decision.fill.Given as goal

abbrev pub invariant-loop-buffer : goal.invariant-loop-buffer
invariant-loop-buffer g l = record {
  took : HasTaken false l.initial.buffer.held l.buffer.held (g.S.Stream.left l.initial.source) (g.S.Stream.left l.source) (g.S.Stream.connections l.initial.source) (g.S.Stream.connections l.source);
  had : l.size ≤ length l.initial.buffer.held → l.buffer.held ≡ l.initial.buffer.held;
  faults : g.S.Counted.faults l.source ≡ g.S.Counted.faults l.initial.source;
  written : g.S.Stream.written l.source ≡ g.S.Stream.written l.initial.source;
  openings : g.S.Stream.openings l.source ≡ g.S.Stream.openings l.initial.source;
  failed_openings : g.S.Counted.failed_openings l.source ≡ g.S.Counted.failed_openings l.initial.source;
}

abbrev pub decreases-loop-buffer : goal.decreases-loop-buffer
decreases-loop-buffer g l = l.size - length l.buffer.held
