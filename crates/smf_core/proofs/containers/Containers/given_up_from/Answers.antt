use Rattle.std.proofs.Common.{◌∙◌, drop, sym, ap}
use Rattle.smf_core.specs.Caches.{given_up_count}
use Rattle.smf_core.specs.Stored.{Stored, lost_count}
use Rattle.smf_core.proofs.Stored.{drop_staged, as_many_from, count_staged}
use Rattle.smf_core.proofs.containers.Containers.given_up_from.Goals as goal

pub returns : goal.returns
returns c =
    let k = c.self.inside in
    let cs = k.containers.items in
    let gs = k.stages.items in
    let place = c.args.place in
    c.count_lost.ensures
    ∙ ap lost_count (c.from_place.ensures ∙ ap (drop place) c.deref.ensures.value)
    ∙ count_staged (drop place cs) (drop place gs) (as_many_from place cs gs c.self.invariant)
    ∙ ap given_up_count (sym (drop_staged place cs gs))
    ∙ ap (λ (x : Stored). given_up_count (drop place x.holdings)) c.self.view_is
