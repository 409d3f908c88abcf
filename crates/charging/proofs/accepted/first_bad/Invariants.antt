use Rattle.std.proofs.Common.{◌≡◌, length}
use Rattle.charging.specs.Accepted.{bad_after_setup, bad_from}
use Rattle.charging.proofs.accepted.first_bad.Given as goal

abbrev pub invariant-loop-item : goal.invariant-loop-item
invariant-loop-item g l = record {
  sound : g.I.Items.is_sound l.items;
  run : bad_after_setup (g.I.Items.left l.fn.items) ≡ bad_from l.in_setup l.here (g.I.Items.left l.items);
}

abbrev pub decreases-loop-item : goal.decreases-loop-item
decreases-loop-item g l = length (g.I.Items.left l.items)
