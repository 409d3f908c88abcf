use Rattle.std.proofs.Common.{rules, ◌≡◌, ◌==◌, ◌+◌, length, Some, None, sym, ap, ◌∙◌, subst, arith}
use Rattle.chf_core.specs.declared.command.Command.TheVariants.{Unsubscribe}
use Rattle.notices.specs.Watched.{Watched}
use Rattle.chf_core.specs.After.{after}
use Rattle.chf_core.specs.Owners.{IsOwned}
use Rattle.chf_core.specs.Machine.{Machine}
use Rattle.chf_core.specs.Caches.{state_seen}
use Rattle.chf_core.proofs.OwnedState.{owned_after}
use Rattle.chf_core.proofs.PlacedRequests.{below_next}
use Rattle.chf_core.proofs.Subscribed.{length_kept}
use Rattle.chf_core.proofs.chf.Chf.commit_unsubscribe.Goals as goal

pub invariant_of-self : goal.invariant_of-self
invariant_of-self c =
    let t = c.self.inside in
    let i = c.self.invariant in
    let s = c.args.self.now.state in
    let new_is : state_seen (record t { count = t.count + 1; watchers = c.end_subscription.new.watchers }) ≡ after s (Unsubscribe c.args.id) = search rules in
    record {
      set_up = λ e. i.set_up (ap (λ (m : Machine). m.state.count == 0) c.self.view_is ∙ sym c.requires.order);
      unbarred = i.unbarred;
      places = i.places;
      references = i.references;
      known = i.known;
      ascending = i.ascending;
      below = below_next t.count t.requests.items i.below;
      owned = subst IsOwned (sym new_is) (owned_after s (Unsubscribe c.args.id) (subst IsOwned (ap (λ (x : Machine). x.state) c.self.view_is) i.owned));
      few = let few = i.few in omega arith;
      made = let made = i.made in let more = ap (λ (w : Watched). length w.contexts) c.end_subscription.ensures in let one = length_kept t.watchers.of.contexts c.args.id None in omega arith;
      limited = i.limited;
      numbered = i.numbered;
    }
