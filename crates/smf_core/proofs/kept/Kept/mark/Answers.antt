use Rattle.std.proofs.Common.{◌≡◌, ◌∙◌, sym, ap}
use Rattle.smf_model.specs.Resting.{rest_end}
use Rattle.smf_core.specs.Caches.{KeptAs, full}
use Rattle.smf_core.specs.Marking.{mark_of}
use Rattle.smf_core.proofs.KeptRight.{wide-full}
use Rattle.smf_core.proofs.Wide.{rest_wide}
use Rattle.smf_core.proofs.kept.Kept.mark.Goals as goal

pub returns : goal.returns
returns c =
    let k = c.self.inside in
    let setup = c.args.setup.now in
    let rest : rest_end setup k.session ≡ rest_end setup (full k.session k.containers.holdings) = sym (rest_wide k.containers.holdings setup k.session) ∙ ap (rest_end setup) (wide-full k.session k.containers.holdings c.self.invariant.live) in
    c.mark.ensures ∙ ap (λ end. record (mark_of setup c.args.now k.session) { due = end }) rest ∙ ap (λ (x : KeptAs). mark_of setup c.args.now x.session) c.self.view_is
