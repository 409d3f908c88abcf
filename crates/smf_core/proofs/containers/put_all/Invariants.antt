use Rattle.std.proofs.Common.{◌≡◌, ◌≤◌, drop, length}
use Rattle.smf_core.specs.Caches.{put_places}
use Rattle.smf_core.proofs.containers.put_all.Given as goal

abbrev pub invariant-loop-at : goal.invariant-loop-at
invariant-loop-at l = record {
  left : put_places (drop l.at l.places) (drop l.at l.next) l.all.holdings ≡ put_places l.places l.next l.fn.all.holdings;
  room : l.at ≤ length l.places → l.all.room ≡ l.fn.all.room;
}
