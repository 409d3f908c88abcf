use Rattle.std.proofs.Common.{◌≡◌, ◌≤◌, ◌<◌, ◌+◌, ◌-◌, ◌∙◌, length, min, sym, ap, subst, arith}
use Rattle.smf_model.specs.GivenUps.{given_up_of}
use Rattle.smf_core.specs.Reads.{containers_of}
use Rattle.smf_core.specs.Caches.{KeptAs, full, put_places}
use Rattle.smf_core.specs.Plan.{changed, Fits}
use Rattle.smf_core.proofs.KeptRight.{taken, taken_value, enough_for, room_for, room_for_held}
use Rattle.smf_core.proofs.kept.Kept.take_change.Goals as goal

pub retell-requires-clause-enough : goal.retell-requires-clause-enough
retell-requires-clause-enough c =
    let k = c.self.inside in
    let fit : Fits c.args.change (full k.session k.containers.holdings) = subst (λ (x : KeptAs). Fits c.args.change x.session) (sym c.self.view_is) c.requires.fits in
    rw (c.as_slice-2.ensures) (enough_for c.args.change k.session k.containers.holdings fit)

pub retell-requires-clause-one : goal.retell-requires-clause-one
retell-requires-clause-one c =
    let k = c.self.inside in
    let fit : Fits c.args.change (full k.session k.containers.holdings) = subst (λ (x : KeptAs). Fits c.args.change x.session) (sym c.self.view_is) c.requires.fits in
    rw (c.as_slice.ensures, c.as_slice-2.ensures) (room_for c.args.change k.session k.containers.holdings k.places c.self.invariant.places fit)

pub hold-requires : goal.hold-requires
hold-requires c =
    let k = c.self.inside in
    let fit : Fits c.args.change (full k.session k.containers.holdings) = subst (λ (x : KeptAs). Fits c.args.change x.session) (sym c.self.view_is) c.requires.fits in
    let room : 0 < min k.containers.room (k.held.cap - k.held.len) = subst (λ (x : KeptAs). 0 < x.room) (sym c.self.view_is) c.requires.room.one in
    let few : length c.only_held-live.result ≤ length k.held.items + 1 =
    room_for_held c.args.change k.session k.containers.holdings c.only_held-live.result k.places k.held.items k.given.items c.self.invariant fit c.only_held-live.ensures in
    omega (arith, few, ap length c.as_slice-3.ensures, room, k.held.ok.0)

pub invariant_of-self : goal.invariant_of-self
invariant_of-self c =
    let k = c.self.inside in
    let fit : Fits c.args.change (full k.session k.containers.holdings) = subst (λ (x : KeptAs). Fits c.args.change x.session) (sym c.self.view_is) c.requires.fits in
    let told : c.retell.new.given.items ≡ given_up_of (put_places k.places c.args.change.moved k.containers.holdings) =
    c.retell.ensures.given ∙ ap given_up_of c.retell.ensures.holdings
    ∙ ap (λ ps. given_up_of (put_places ps c.as_slice-2.result.now k.containers.holdings)) c.as_slice.ensures
    ∙ ap (λ ks. given_up_of (put_places k.places ks k.containers.holdings)) c.as_slice-2.ensures in
    rw (c.settle_in.ensures, c.retell.ensures.holdings, c.take_places.ensures, c.as_slice.ensures, c.as_slice-2.ensures)
    (taken c.args.change k.session k.containers.holdings c.only_held-live.result k.places k.held.items c.hold.new.held.items k.given.items c.retell.new.given.items c.self.invariant fit c.only_held-live.ensures
    (c.hold.ensures ∙ ap containers_of c.as_slice-3.ensures) told)

pub returns : goal.returns
returns c =
    let k = c.self.inside in
    let fit : Fits c.args.change (full k.session k.containers.holdings) = subst (λ (x : KeptAs). Fits c.args.change x.session) (sym c.self.view_is) c.requires.fits in
    rw (c.settle_in.ensures, c.retell.ensures.holdings, c.as_slice.ensures, c.as_slice-2.ensures)
    (taken_value c.args.change k.session k.containers.holdings c.only_held-live.result k.places k.held.items k.given.items c.self.invariant fit ∙ ap (λ (x : KeptAs). changed c.args.change x.session) c.self.view_is)
