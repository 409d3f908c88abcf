use Rattle.std.proofs.Common.{◌≡◌, ◌∙◌, sym, ap, subst}
use Rattle.smf_model.specs.Machine.{next_session, touches}
use Rattle.smf_core.specs.Caches.{KeptAs, stepped_by}
use Rattle.smf_core.specs.Plan.{changed, Fits}
use Rattle.smf_core.proofs.Nexts.{map_at-none, map_at-alike, sessions-kept, ready-set, touched_now, untouched_now}
use Rattle.smf_core.proofs.next.one_change.Goals as goal

pub returns-then-not-is_touched-clause-made : goal.returns-then-not-is_touched-clause-made
returns-then-not-is_touched-clause-made c =
    let k = c.index-sessions-at.result in
    map_at-none c.args.at (next_session c.args.setup.now c.args.now c.args.event.now) k c.args.sessions.now c.requires (sym c.index-sessions-at.is)
    (untouched_now c.args.event.now c.args.setup.now c.args.now k.session (ap (λ (x : KeptAs). touches c.args.event.now x.session) c.index-sessions-at.is ∙ sym c.is_touched.ensures ∙ c.if-not-is_touched.true))

pub returns-in_err-change-clause-same : goal.returns-in_err-change-clause-same
returns-in_err-change-clause-same c =
    sessions-kept c.args.sessions.now c.args.at c.change.new.self c.index-sessions-at.result c.requires (sym c.index-sessions-at.is) (c.change.ensures.same ∙ sym (ap (λ (x : KeptAs). x.session) c.index-sessions-at.is))

pub returns-clause-made : goal.returns-clause-made
returns-clause-made c =
    let k = c.index-sessions-at.result in
    let P : KeptAs → Type 0 = λ x. changed c.in_ok-change.change x.session ≡ stepped_by c.args.setup.now c.args.now c.args.event.now x.session in
    map_at-alike c.args.at (changed c.in_ok-change.change) (next_session c.args.setup.now c.args.now c.args.event.now) k c.args.sessions.now c.requires (sym c.index-sessions-at.is)
    (subst P (sym c.index-sessions-at.is) c.in_ok-change.ensures.made
    ∙ touched_now c.args.event.now c.args.setup.now c.args.now k.session (ap (λ (x : KeptAs). touches c.args.event.now x.session) c.index-sessions-at.is ∙ sym c.is_touched.ensures ∙ c.if-not-is_touched.false))

pub returns-clause-ready : goal.returns-clause-ready
returns-clause-ready c =
    ready-set c.args.sessions.now c.args.at c.in_ok-change.change c.change.new.self c.index-sessions-at.result c.requires (sym c.index-sessions-at.is)
    (c.change.ensures.same ∙ sym (ap (λ (x : KeptAs). x.session) c.index-sessions-at.is))
    (subst (λ (x : KeptAs). Fits c.in_ok-change.change x.session) (sym c.index-sessions-at.is) c.in_ok-change.ensures.fits) c.in_ok-change.ensures.room

pub returns-clause-same : goal.returns-clause-same
returns-clause-same c =
    sessions-kept c.args.sessions.now c.args.at c.change.new.self c.index-sessions-at.result c.requires (sym c.index-sessions-at.is) (c.change.ensures.same ∙ sym (ap (λ (x : KeptAs). x.session) c.index-sessions-at.is))
