use Rattle.std.proofs.Common.{◌≡◌, ◌==◌, ◌++◌, false, length}
use Rattle.charging.specs.Answering.{printed}
use Rattle.charging.proofs.answering.push_items.Given as goal

abbrev pub invariant-loop-chf : goal.invariant-loop-chf
invariant-loop-chf g l = record {
  sound : g.I.Items.is_sound l.items;
  begun : (l.chf.state.count == 0) ≡ false;
  run : l.out.items ++ printed l.chf.state (g.I.Items.left l.items) ≡ l.fn.out.items ++ printed l.fn.chf.state (g.I.Items.left l.fn.items);
}

abbrev pub decreases-loop-chf : goal.decreases-loop-chf
decreases-loop-chf g l = length (g.I.Items.left l.items)
