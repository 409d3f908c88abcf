use Rattle.chf_core.specs.Effect.{rating_by}
use Rattle.chf_core.proofs.Drafting.{granting_begins, one_granted}
use Rattle.chf_core.proofs.draft.Draft.grant_all.Goals as goal

pub loop-a-init : goal.loop-a-init
loop-a-init c =
    granting_begins
    (rating_by c.args.tariffs.now c.args.grace c.args.barred.now) c.args.t c.args.stamp c.args.accounts.now.state
    c.args.asks.now c.args.self.now c.in_ok-told.told c.in_ok-told.ensures c.requires.holds c.requires.clear

pub loop-a-preserved : goal.loop-a-preserved
loop-a-preserved c =
    let l = c.loop-a in
    one_granted
    (rating_by c.args.tariffs.now c.args.grace c.args.barred.now) c.args.t c.args.stamp c.args.accounts.now.state
    c.args.asks.now l.a-index _ l.self c.reserve.new.self l.told c.push.new.self _ _
    c.grant_for-grant.result c.deadline_for-deadline.result c.info_for.result c.loop-a-test.true l.invariant
    (c.grant_for-grant.ensures.value c.args.grace) c.deadline_for-deadline.ensures c.info_for.ensures
    c.in_ok-reserve.ensures.moves c.in_ok-push.ensures.ok c.in_ok-reserve.ensures.holds
