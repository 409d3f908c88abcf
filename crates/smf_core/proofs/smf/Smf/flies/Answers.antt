use Rattle.std.proofs.Common.{◌∙◌, ap}
use Rattle.agenda.specs.declared.mark.Mark.{Mark}
use Rattle.agenda.specs.Marks.{all_of}
use Rattle.smf_core.specs.Caches.{sessions_of}
use Rattle.smf_core.specs.Plan.{Shown}
use Rattle.smf_model.specs.Machine.{any_flies}
use Rattle.smf_core.proofs.Marked.{flies_all}
use Rattle.smf_core.proofs.smf.Smf.flies.Goals as goal

pub returns : goal.returns
returns c =
    let s = c.self.inside in
    ap (λ (m : Mark). m.flies) (c.all.ensures ∙ ap all_of c.self.invariant.marks) ∙ flies_all s.setup s.moment (sessions_of s.sessions.items) ∙ ap (λ (x : Shown). any_flies x.machine.sessions) c.self.view_is
