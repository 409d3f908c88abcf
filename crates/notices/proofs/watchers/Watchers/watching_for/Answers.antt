use Rattle.std.specs.List.Sorted.{IsNonDecreasing}
use Rattle.std.proofs.lemmas.List.Sorted.{IsNonDecreasingBy-take}
use Rattle.std.proofs.lemmas.List.Kept.{IsNonDecreasingBy-filter}
use Rattle.notices.specs.Due.{is_of}
use Rattle.std.proofs.Common.{◌≡◌, List, ℕ, All, true, sym, subst, take}
use Rattle.counters.specs.Subscriptions.{is_live, context_of}
use Rattle.notices.proofs.Answered.{all_live}
use Rattle.notices.proofs.watchers.Watchers.watching_for.Goals as goal

pub returns-clause-live : goal.returns-clause-live
returns-clause-live c =
    subst (λ (found : List ℕ). All (λ id. is_live c.args.self.now.of.contexts id ≡ true) found) (sym c.loop-id.invariant)
    (all_live c.args.self.now.of.contexts c.args.supi.now (take c.loop-id.id-index c.watching-id-items.result.now))

pub returns-clause-ascending : goal.returns-clause-ascending
returns-clause-ascending c =
    let ids = c.watching-id-items.result.now in
    subst (λ (found : List ℕ). IsNonDecreasing found) (sym c.loop-id.invariant)
    (IsNonDecreasingBy-filter (λ (x : ℕ). x) (λ id. is_of c.args.supi.now (context_of c.args.self.now.of.contexts id)) (take c.loop-id.id-index ids) (IsNonDecreasingBy-take (λ (x : ℕ). x) c.loop-id.id-index ids c.watching-id-items.ensures.ascending))
