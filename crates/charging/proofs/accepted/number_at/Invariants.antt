use Rattle.std.proofs.Common.{◌≡◌, length}
use Rattle.charging.specs.Accepted.{number_at}
use Rattle.charging.proofs.accepted.number_at.Given as goal

abbrev pub invariant-loop-item : goal.invariant-loop-item
invariant-loop-item g l = record {
  sound : g.I.Items.is_sound l.items;
  run : number_at l.ordinal 0 1 (g.I.Items.left l.fn.items) ≡ number_at l.left l.last l.here (g.I.Items.left l.items);
}

abbrev pub decreases-loop-item : goal.decreases-loop-item
decreases-loop-item g l = length (g.I.Items.left l.items)
