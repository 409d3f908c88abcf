use Rattle.std.proofs.Common.{◌≡◌, ◌≤◌, ◌-◌, ◌+◌, ℕ, List, true, false, Some}
use Rattle.edge.specs.Connections.{Connection}
use Rattle.serving.specs.Sides.{HasReached, meaning_of, newly}
use Rattle.serving.proofs.Visiting.{SoFar}
use Rattle.serving.proofs.serving.serve_on.Given as goal

abbrev pub invariant-loop-served : goal.invariant-loop-served
invariant-loop-served g l = record {
  count : l.served ≤ l.most;
  ready : g.H.Handler.is_ready l.handler l.disk;
  clock : (n : ℕ) → g.C.Clock.to_come l.clock n ≡ g.C.Clock.to_come l.fn.clock (l.served + n);
  reached : HasReached (meaning_of g.H.Handler.gives g.H.Handler.expires g.H.Handler.notifies g.H.Handler.fence l.was) (record { handler = l.fn.handler; disk = l.fn.disk; link = g.L.Stream.connections l.fn.link }) (record { handler = l.handler; disk = l.disk; link = g.L.Stream.connections l.link });
  served : (earlier : List Connection) → g.N.Stream.connections l.fn.door ≡ Some earlier
      → SoFar (meaning_of g.H.Handler.gives g.H.Handler.expires g.H.Handler.notifies g.H.Handler.fence l.was) (g.C.Clock.to_come l.fn.clock) true (record { handler = l.fn.handler; disk = l.fn.disk; link = g.L.Stream.connections l.fn.link }) l.served (g.N.Stream.connections l.door) earlier l.latest
      (record { handler = l.handler; disk = l.disk; link = g.L.Stream.connections l.link });
  owner : newly l.was (g.H.Handler.fence l.handler) ≡ false;
  failed_openings : g.N.Counted.failed_openings l.door ≡ g.N.Counted.failed_openings l.fn.door;
  later : g.N.Counted.faults l.fn.door ≤ g.N.Counted.faults l.door;
}

abbrev pub decreases-loop-served : goal.decreases-loop-served
decreases-loop-served g l = l.most - l.served
