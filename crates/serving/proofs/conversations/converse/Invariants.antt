use Rattle.std.proofs.Common.{◌≡◌, ◌≤◌, ◌-◌, ◌∷◌, [], ℕ, List, Option, length, false, Some}
use Rattle.edge.specs.Connections.{Connection}
use Rattle.edge.specs.Openings.{opened}
use Rattle.serving.specs.Sides.{HasReached, meaning_of}
use Rattle.serving.specs.Talk.{IsTalking, Turn}
use Rattle.serving.proofs.conversations.converse.Given as goal

abbrev pub invariant-loop-count : goal.invariant-loop-count
invariant-loop-count g l = record {
  fresh : l.conn.refused ≡ false;
  count : l.count ≤ 1000;
  ready : g.H.Handler.is_ready l.handler l.disk;
  reached : (link : Option (List Connection)) → HasReached (meaning_of g.H.Handler.gives g.H.Handler.expires g.H.Handler.notifies g.H.Handler.fence l.was) (record { handler = l.fn.handler; disk = l.fn.disk; link = link }) (record { handler = l.handler; disk = l.disk; link = link });
  talks : (link : Option (List Connection)) (bytes : List ℕ) (others : List Connection) → g.N.Stream.connections l.fn.door ≡ Some (opened [] bytes ∷ others)
      → (turns : List Turn) × (present : Connection) × (length turns ≡ l.count) × (g.N.Stream.connections l.door ≡ Some (present ∷ others))
      × IsTalking (meaning_of g.H.Handler.gives g.H.Handler.expires g.H.Handler.notifies g.H.Handler.fence l.was) (record { handler = l.fn.handler; disk = l.fn.disk; link = link }) present turns (record { handler = l.handler; disk = l.disk; link = link }) l.conn.bytes;
  failed_openings : g.N.Counted.failed_openings l.door ≡ g.N.Counted.failed_openings l.fn.door;
  openings : g.N.Stream.openings l.door ≡ g.N.Stream.openings l.fn.door;
  later : g.N.Counted.faults l.fn.door ≤ g.N.Counted.faults l.door;
}

abbrev pub decreases-loop-count : goal.decreases-loop-count
decreases-loop-count g l = 1000 - l.count
