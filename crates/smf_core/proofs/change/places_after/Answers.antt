use Rattle.std.proofs.Common.{◌∙◌, sym}
use Rattle.smf_core.proofs.Places.{live_turn, turn_held, turn_past}
use Rattle.smf_core.proofs.change.places_after.Goals as goal
use Rattle.smf_core.proofs.change.places_after.Goals.{then-is_held_holding+in_ok-place_of+in_ok-push, else-is_held_holding}

pub loop-at-preserved : goal.loop-at-preserved
loop-at-preserved c =
    let turn = live_turn c.args.places.now c.args.moved.now c.args.count c.loop-at.at c.index-moved-at.result c.loop-at-test.true (sym c.index-moved-at.is) in
    elim c.if-is_held_holding.branch [
      | then-is_held_holding+in_ok-place_of+in_ok-push w ↦ turn_held _ _ _ _ _ _ _ _ turn (sym c.is_held_holding.ensures ∙ w.if-is_held_holding.true) w.in_ok-place_of.ensures (w.next-is ∙ w.in_ok-push.ensures.ok) c.loop-at.invariant
      | else-is_held_holding w ↦ turn_past _ _ _ _ _ _ _ turn (sym c.is_held_holding.ensures ∙ w.if-is_held_holding.false) w.next-is c.loop-at.invariant
    ]
