use Rattle.std.proofs.Common.{◌∙◌, sym, ap}
use Rattle.smf_core.specs.Reads.{containers_of}
use Rattle.smf_core.specs.Stored.{Stored}
use Rattle.smf_core.proofs.Stored.{containers_staged}
use Rattle.smf_core.proofs.containers.Containers.as_slice.Goals as goal

pub returns : goal.returns
returns c =
    let k = c.self.inside in
    c.as_slice.ensures.value ∙ sym (containers_staged k.containers.items k.stages.items c.self.invariant) ∙ ap (λ (x : Stored). containers_of x.holdings) c.self.view_is
