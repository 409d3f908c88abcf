use Rattle.std.proofs.Common.{rules, ◌≡◌, ◌==◌, ◌+◌, length, Some, None, sym, ap, ◌∙◌, subst, arith}
use Rattle.chf_core.specs.declared.command.Command.TheVariants.{Subscribe}
use Rattle.notices.specs.Watched.{Watched}
use Rattle.counters.specs.Watching.{are_known}
use Rattle.chf_core.specs.declared.decision.Change.TheVariants as change
use Rattle.chf_core.specs.Spending.{counters_in}
use Rattle.chf_core.specs.State.{at_text}
use Rattle.chf_core.specs.Deciding.{outcome_of}
use Rattle.chf_core.specs.After.{after}
use Rattle.chf_core.specs.Owners.{IsOwned}
use Rattle.chf_core.specs.Machine.{Machine, Writes}
use Rattle.chf_core.specs.Caches.{state_seen}
use Rattle.chf_core.proofs.OwnedState.{owned_after}
use Rattle.chf_core.proofs.PlacedRequests.{below_next}
use Rattle.chf_core.proofs.Stepped.{subscribed_is}
use Rattle.chf_core.proofs.Subscribed.{length_made, subscribe_row}
use Rattle.chf_core.proofs.chf.Chf.commit_subscribe.Goals as goal

pub invariant_of-self : goal.invariant_of-self
invariant_of-self c =
    let t = c.self.inside in
    let i = c.self.invariant in
    let s = c.args.self.now.state in
    let writes : Writes c.args.self.now (Subscribe c.args.context) (change.Subscribe c.in-Subscribe.account) =
    subst (Writes c.args.self.now (Subscribe c.args.context)) c.in-Subscribe.is c.requires.worked_out.change in
    let row = subscribe_row (at_text s.subscribers c.args.context.supi) (are_known (counters_in s.setup) c.args.context.counters) (outcome_of s (Subscribe c.args.context)) c.args.outcome c.requires.fresh in
    let step = subscribed_is (counters_in s.setup) s.watched s.names c.args.context c.in-Subscribe.account (at_text s.subscribers c.args.context.supi) row writes in
    let new_is : state_seen (record t { count = t.count + 1; watchers = c.make_subscription.new.watchers }) ≡ after s (Subscribe c.args.context) = search rules in
    record {
      set_up = λ e. i.set_up (ap (λ (m : Machine). m.state.count == 0) c.self.view_is ∙ sym c.requires.order);
      unbarred = i.unbarred;
      places = i.places;
      references = i.references;
      known = i.known;
      ascending = i.ascending;
      below = below_next t.count t.requests.items i.below;
      owned = subst IsOwned (sym new_is) (owned_after s (Subscribe c.args.context) (subst IsOwned (ap (λ (x : Machine). x.state) c.self.view_is) i.owned));
      few = let few = i.few in omega arith;
      made = let made = i.made in let more = ap (λ (w : Watched). length w.contexts) c.make_subscription.ensures in let one = length_made t.watchers.of.contexts c.args.context in omega arith;
      limited = i.limited;
      numbered = i.numbered;
    }
