use Rattle.std.proofs.Common.{◌∙◌, ◌++◌, ◌∷◌, [], ap, arith}
use Rattle.std.proofs.lemmas.List.{length_push}
use Rattle.smf_core.specs.Stored.{Stored, stage_of}
use Rattle.smf_core.proofs.Stored.{staged_more}
use Rattle.smf_core.proofs.containers.Containers.push.Goals as goal

pub invariant_of-self : goal.invariant_of-self
invariant_of-self c =
    let k = c.self.inside in
    let h = c.args.holding.now in
    rw (c.push_reserved.ensures.items, c.push_reserved-2.ensures.items, c.stage_of.ensures) (omega (arith, length_push k.containers.items h.container, length_push k.stages.items (stage_of h), c.self.invariant))

pub returns : goal.returns
returns c =
    let k = c.self.inside in
    let h = c.args.holding.now in
    rw (c.push_reserved.ensures.items, c.push_reserved-2.ensures.items, c.stage_of.ensures) (staged_more k.containers.items k.stages.items h c.self.invariant ∙ ap (λ (x : Stored). x.holdings ++ h ∷ []) c.self.view_is)
