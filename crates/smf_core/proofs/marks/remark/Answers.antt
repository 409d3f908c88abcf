use Rattle.std.proofs.Common.{◌∙◌, set, sym, ap, arith}
use Rattle.smf_core.proofs.Marked.{mark_there, set_past}
use Rattle.smf_core.proofs.marks.remark.Goals as goal

pub returns-then-at-sessions-clause-marks : goal.returns-then-at-sessions-clause-marks
returns-then-at-sessions-clause-marks c = sym (set_past c.args.agenda.now.marks c.args.at _ (omega (arith, c.requires, c.if-at-sessions.true)))

pub returns-clause-marks : goal.returns-clause-marks
returns-clause-marks c =
    c.set.ensures.value
    ∙ ap (set c.args.agenda.now.marks c.args.at) (c.mark.ensures ∙ mark_there c.args.setup.now c.args.now c.args.sessions.now c.args.at c.index-sessions-at.result (omega (arith, c.if-at-sessions.false)) (sym c.index-sessions-at.is))
