use Rattle.std.proofs.Common.{◌+◌, drop, get_or, subst, arith}
use Rattle.std.proofs.lemmas.List.{drop_more}
use Rattle.smf_model.specs.Machine.{next_session}
use Rattle.smf_core.specs.Caches.{sessions_of}
use Rattle.smf_core.proofs.Several.{IsTurned, turned_past, turned_more}
use Rattle.smf_core.proofs.next.turns_at.Goals as goal

pub loop-at-preserved-then-at-sessions : goal.loop-at-preserved-then-at-sessions
loop-at-preserved-then-at-sessions c =
    let f = next_session c.args.setup.now c.args.now c.args.event.now in
    let ss = sessions_of c.args.sessions.now in
    let ps = c.args.places.now in
    let i = c.loop-at.at-index in
    turned_past f ss ps (drop (i + 1) ps) (get_or ps i 0) c.loop-at.turns.items c.loop-at.sessions
    (subst (λ xs. IsTurned f ss ps xs c.loop-at.turns.items c.loop-at.sessions) (drop_more ps i 0 (omega (arith, c.loop-at-test.true))) c.loop-at.invariant)
    c.if-at-sessions.true

pub loop-at-preserved : goal.loop-at-preserved
loop-at-preserved c =
    let f = next_session c.args.setup.now c.args.now c.args.event.now in
    let ss = sessions_of c.args.sessions.now in
    let ps = c.args.places.now in
    let i = c.loop-at.at-index in
    turned_more f ss ps (drop (i + 1) ps) (get_or ps i 0) c.loop-at.turns.items c.push_next.new.turns.items c.in_ok-next.next c.loop-at.sessions c.one_change.new.sessions c.one_change.ensures.others.0
    (subst (λ xs. IsTurned f ss ps xs c.loop-at.turns.items c.loop-at.sessions) (drop_more ps i 0 (omega (arith, c.loop-at-test.true))) c.loop-at.invariant)
    c.in_ok-push_next.ensures c.one_change.ensures.others.1 c.one_change.ensures.same c.in_ok-next.ensures.made c.in_ok-next.ensures.place c.in_ok-next.ensures.ready
