use Rattle.std.proofs.Common.{◌≡◌, ◌++◌, ◌∙◌, drop, length, sym, ap, arith}
use Rattle.smf_model.specs.GivenUps.{given_up_of}
use Rattle.smf_core.specs.Stored.{Stored, staged}
use Rattle.smf_core.proofs.Stored.{drop_staged}
use Rattle.smf_core.proofs.containers.Containers.tell_from.Goals as goal

pub tell_all-requires : goal.tell_all-requires
tell_all-requires c =
    let k = c.self.inside in
    let place = c.args.place in
    let rest : staged c.from_place.result.now c.from_place-2.result.now ≡ drop place c.args.self.now.holdings =
    ap (λ xs. staged xs c.from_place-2.result.now) (c.from_place.ensures ∙ ap (drop place) c.deref.ensures.value)
    ∙ ap (staged (drop place k.containers.items)) (c.from_place-2.ensures ∙ ap (drop place) c.deref-2.ensures.value)
    ∙ sym (drop_staged place k.containers.items k.stages.items)
    ∙ ap (λ (x : Stored). drop place x.holdings) c.self.view_is in
    omega (arith, c.requires, ap (λ xs. length (given_up_of xs)) rest)

pub returns : goal.returns
returns c =
    let k = c.self.inside in
    let place = c.args.place in
    let rest : staged c.from_place.result.now c.from_place-2.result.now ≡ drop place c.args.self.now.holdings =
    ap (λ xs. staged xs c.from_place-2.result.now) (c.from_place.ensures ∙ ap (drop place) c.deref.ensures.value)
    ∙ ap (staged (drop place k.containers.items)) (c.from_place-2.ensures ∙ ap (drop place) c.deref-2.ensures.value)
    ∙ sym (drop_staged place k.containers.items k.stages.items)
    ∙ ap (λ (x : Stored). drop place x.holdings) c.self.view_is in
    c.tell_all.ensures ∙ ap (λ xs. c.args.given.now.items ++ given_up_of xs) rest
