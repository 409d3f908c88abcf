use Rattle.std.proofs.Common.{length, ap, arith}
use Rattle.smf_core.specs.Stored.{Stored}
use Rattle.smf_core.proofs.Stored.{length_staged}
use Rattle.smf_core.proofs.containers.Containers.len.Goals as goal

pub returns : goal.returns
returns c =
    let k = c.self.inside in
    omega (arith, c.len.ensures, k.containers.ok.0, length_staged k.containers.items k.stages.items c.self.invariant, ap (λ (x : Stored). length x.holdings) c.self.view_is)
