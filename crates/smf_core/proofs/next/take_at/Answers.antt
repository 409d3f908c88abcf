use Rattle.std.proofs.Common.{◌∙◌, set, sym, ap, subst, arith}
use Rattle.smf_core.specs.Caches.{KeptAs, HasRoom, sessions_of}
use Rattle.smf_core.specs.Marking.{marks_of}
use Rattle.smf_core.specs.Plan.{changed, Fits}
use Rattle.smf_core.proofs.Marked.{marks_set}
use Rattle.smf_core.proofs.Nexts.{ready-at, ready-within, map_at-same, sessions-set}
use Rattle.smf_core.proofs.next.take_at.Goals as goal

pub take-requires-clause-fits : goal.take-requires-clause-fits
take-requires-clause-fits c =
    subst (λ (x : KeptAs). Fits c.args.change x.session) c.index-sessions-at.is (ready-at c.args.sessions.now c.args.at c.args.change c.index-sessions-at.result c.requires.ready (sym c.index-sessions-at.is)).0

pub take-requires-clause-room : goal.take-requires-clause-room
take-requires-clause-room c =
    subst (λ (x : KeptAs). HasRoom c.args.change x) c.index-sessions-at.is (ready-at c.args.sessions.now c.args.at c.args.change c.index-sessions-at.result c.requires.ready (sym c.index-sessions-at.is)).1

pub returns-then-at-sessions-clause-value : goal.returns-then-at-sessions-clause-value
returns-then-at-sessions-clause-value c = absurd (omega (arith, ready-within c.args.sessions.now c.args.at c.args.change c.requires.ready, c.if-at-sessions.true))

pub returns-then-at-sessions-clause-others : goal.returns-then-at-sessions-clause-others
returns-then-at-sessions-clause-others c = absurd (omega (arith, ready-within c.args.sessions.now c.args.at c.args.change c.requires.ready, c.if-at-sessions.true))

pub returns-clause-value : goal.returns-clause-value
returns-clause-value c =
    sessions-set c.args.sessions.now c.args.at c.take.new.self
    ∙ sym (map_at-same c.args.at (changed c.args.change) c.index-sessions-at.result c.args.sessions.now c.if-at-sessions.false (sym c.index-sessions-at.is) c.take.new.self.session
    (c.take.ensures ∙ ap (λ (x : KeptAs). changed c.args.change x.session) (sym c.index-sessions-at.is)))

pub returns-clause-marks : goal.returns-clause-marks
returns-clause-marks c =
    c.set.ensures.value
    ∙ ap (λ ms. set ms c.args.at c.mark.result) c.requires.marks
    ∙ ap (set (marks_of c.args.setup.now c.args.now (sessions_of c.args.sessions.now)) c.args.at) c.mark.ensures
    ∙ marks_set c.args.setup.now c.args.now c.args.sessions.now c.args.at c.take.new.self
