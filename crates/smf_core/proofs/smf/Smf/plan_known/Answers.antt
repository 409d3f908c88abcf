use Rattle.std.proofs.Common.{◌∙◌, sym, ap}
use Rattle.smf_core.specs.Caches.{sessions_of}
use Rattle.smf_core.specs.Marking.{woken_by}
use Rattle.smf_core.specs.Plan.{Shown}
use Rattle.smf_core.proofs.Marked.{none_woken}
use Rattle.smf_core.proofs.smf.Smf.plan_known.Goals as goal

pub returns-clause-woken : goal.returns-clause-woken
returns-clause-woken c =
    let s = c.self.inside in
    c.new.ensures ∙ sym (none_woken s.setup s.moment 0 (sessions_of s.sessions.items)) ∙ ap (λ (x : Shown). woken_by s.moment x.machine) c.self.view_is
