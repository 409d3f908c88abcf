use Rattle.std.proofs.Common.{◌≡◌, ◌+◌, ◌-◌, ◌<◌, ◌≤◌, false, length, take}
use Rattle.wire.specs.Decisions.{HasFilled}
use Rattle.wire.specs.FieldLines.{EndsIn}
use Rattle.wire.specs.Front.{front, is_cut}
use Rattle.wire.specs.Heads.{Begins, More}
use Rattle.wire.specs.Starts.{IsOpen}
use Rattle.wire.proofs.decision.decide.Given as goal

abbrev pub invariant-loop-found : goal.invariant-loop-found
invariant-loop-found g l = record {
  filled : HasFilled (λ bytes. Begins g.M.Framed.is_at g.M.Framed.is_hopeless bytes More) false l.initial.buffer.held l.buffer.held (g.S.Stream.left l.initial.source) (g.S.Stream.left l.source) (g.S.Stream.connections l.initial.source) (g.S.Stream.connections l.source);
  within : l.had ≤ length l.buffer.held;
  ends : EndsIn l.had (take l.had l.buffer.held) l.line;
  known : 0 < l.had → IsOpen g.M.Framed.is_at g.M.Framed.is_hopeless (front (take l.had l.buffer.held));
  short : 0 < l.had → is_cut (take l.had l.buffer.held) ≡ false;
  faults : g.S.Counted.faults l.source ≡ g.S.Counted.faults l.initial.source;
  written : g.S.Stream.written l.source ≡ g.S.Stream.written l.initial.source;
  openings : g.S.Stream.openings l.source ≡ g.S.Stream.openings l.initial.source;
  failed_openings : g.S.Counted.failed_openings l.source ≡ g.S.Counted.failed_openings l.initial.source;
}

abbrev pub decreases-loop-found : goal.decreases-loop-found
decreases-loop-found g l = 16384 + 1048576 - length l.buffer.held
