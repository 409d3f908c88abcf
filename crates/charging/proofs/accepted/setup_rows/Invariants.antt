use Rattle.std.proofs.Common.{◌≡◌, ◌++◌, length}
use Rattle.charging.specs.Accepted.{setup_rows}
use Rattle.charging.proofs.accepted.setup_rows.Given as goal

abbrev pub invariant-loop-rows : goal.invariant-loop-rows
invariant-loop-rows g l = record {
  sound : g.I.Items.is_sound l.items;
  run : setup_rows (g.I.Items.left l.fn.items) ≡ l.rows ++ setup_rows (g.I.Items.left l.items);
}

abbrev pub decreases-loop-rows : goal.decreases-loop-rows
decreases-loop-rows g l = length (g.I.Items.left l.items)
