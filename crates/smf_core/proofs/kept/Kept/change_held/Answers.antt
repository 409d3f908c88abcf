use Rattle.std.proofs.Common.{◌≡◌, ◌∙◌, ap, subst, length}
use Rattle.smf_core.specs.Caches.{KeptAs, full}
use Rattle.smf_model.specs.Machine.{finished, effect}
use Rattle.smf_core.specs.Plan.{changed, Fits}
use Rattle.smf_core.proofs.KeptRight.{if_ok, with_places, made, fits}
use Rattle.smf_core.proofs.kept.Kept.change_held.Goals as goal

pub returns-clause-made : goal.returns-clause-made
returns-clause-made c =
    let k = c.self.inside in
    let seen : full k.session k.containers.holdings ≡ c.args.self.now.session = ap (λ (x : KeptAs). x.session) c.self.view_is in
    let count : c.len.result ≡ length k.containers.holdings = c.len.ensures ∙ ap length c.make_room.ensures.same in
    if_ok c.change_of.result _ _ (λ x m.
    subst (λ s. changed x s ≡ finished c.args.setup.now c.args.now (effect c.args.setup.now c.args.now c.args.event.now s)) seen
    (made x c.args.setup.now c.args.now c.args.event.now k.session k.containers.holdings k.places k.held.items k.given.items c.self.invariant
    (with_places x c.args.setup.now c.args.now c.args.event.now k.session c.as_slice-places.result.now k.places c.len.result (length k.containers.holdings) c.as_slice-places.ensures count m)))
    c.change_of.ensures

pub returns-clause-fits : goal.returns-clause-fits
returns-clause-fits c =
    let k = c.self.inside in
    let seen : full k.session k.containers.holdings ≡ c.args.self.now.session = ap (λ (x : KeptAs). x.session) c.self.view_is in
    let count : c.len.result ≡ length k.containers.holdings = c.len.ensures ∙ ap length c.make_room.ensures.same in
    if_ok c.change_of.result _ _ (λ x m.
    subst (λ s. Fits x s) seen
    (fits x c.args.setup.now c.args.now c.args.event.now k.session k.containers.holdings k.places k.held.items k.given.items c.self.invariant
    (with_places x c.args.setup.now c.args.now c.args.event.now k.session c.as_slice-places.result.now k.places c.len.result (length k.containers.holdings) c.as_slice-places.ensures count m)))
    c.change_of.ensures
