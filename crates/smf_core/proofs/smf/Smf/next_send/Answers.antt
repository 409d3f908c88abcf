use Rattle.std.proofs.Common.{◌∙◌, ap}
use Rattle.agenda.specs.declared.mark.Mark.{Mark}
use Rattle.agenda.specs.Marks.{all_of}
use Rattle.smf_core.specs.Caches.{sessions_of}
use Rattle.smf_core.specs.Plan.{Shown}
use Rattle.smf_model.specs.Sending.{send_of}
use Rattle.smf_core.proofs.Marked.{send_all}
use Rattle.smf_core.proofs.smf.Smf.next_send.Goals as goal

pub returns : goal.returns
returns c =
    let s = c.self.inside in
    ap (λ (m : Mark). m.send) (c.all.ensures ∙ ap all_of c.self.invariant.marks) ∙ send_all s.setup s.moment (sessions_of s.sessions.items) ∙ ap (λ (x : Shown). send_of x.machine.moment x.machine.sessions) c.self.view_is
