use Rattle.std.proofs.Common.{ℕ, ◌+◌, ◌∙◌, drop, get_or, sym, ap, cond}
use Rattle.smf_core.specs.Caches.{first_given_up, is_given_up}
use Rattle.smf_core.proofs.Told.{first_turn, first_past}
use Rattle.smf_core.proofs.giving.first_given_up.Goals as goal

pub returns-then-at-moved : goal.returns-then-at-moved
returns-then-at-moved c = sym (first_past c.args.places.now c.args.moved.now c.args.count c.loop-at.at c.if-at-moved.true) ∙ c.loop-at.invariant

pub loop-at-preserved : goal.loop-at-preserved
loop-at-preserved c =
    let here : ℕ = get_or c.args.places.now c.loop-at.at 0 in
    let later : ℕ = first_given_up (drop (c.loop-at.at + 1) c.args.places.now) (drop (c.loop-at.at + 1) c.args.moved.now) c.args.count in
    let turn = first_turn c.args.places.now c.args.moved.now c.args.count c.loop-at.at c.index-moved-at.result c.loop-at-test.true c.if-at-moved.false (sym c.index-moved-at.is) in
    sym (turn ∙ ap (λ h. cond (is_given_up h) here later) c.index-moved-at.is ∙ ap (λ b. cond b here later) (sym c.is_given_up_place.ensures ∙ c.if-is_given_up_place.false))
    ∙ c.loop-at.invariant
