use Rattle.std.proofs.Common.{rules, ◌≡◌, ◌==◌, ◌+◌, length, sym, ap, ◌∙◌, subst, arith}
use Rattle.chf_core.specs.declared.command.Command.TheVariants.{Subscriber}
use Rattle.notices.specs.Watched.{Watched}
use Rattle.chf_core.specs.declared.decision.Change.TheVariants as change
use Rattle.chf_core.specs.Spending.{counters_in}
use Rattle.chf_core.specs.State.{at_text}
use Rattle.chf_core.specs.CommandSteps.{money_after}
use Rattle.chf_core.specs.After.{after}
use Rattle.chf_core.specs.Owners.{IsOwned}
use Rattle.chf_core.specs.Machine.{Machine, Writes}
use Rattle.chf_core.specs.Caches.{state_seen}
use Rattle.chf_core.proofs.OwnedState.{owned_after}
use Rattle.chf_core.proofs.Stepped.{moved_posted, posted_contexts}
use Rattle.chf_core.proofs.PlacedRequests.{below_next}
use Rattle.chf_core.proofs.chf.Chf.commit_subscriber.Goals as goal

pub invariant_of-self : goal.invariant_of-self
invariant_of-self c =
    let t = c.self.inside in
    let i = c.self.invariant in
    let s = c.args.self.now.state in
    let writes : Writes c.args.self.now (Subscriber c.args.supi c.args.account c.args.barred) (change.Subscriber c.in-Subscriber.name c.in-Subscriber.groups c.in-Subscriber.moving) =
    subst (Writes c.args.self.now (Subscriber c.args.supi c.args.account c.args.barred)) c.in-Subscriber.is c.requires.worked_out.change in
    let m = writes.1.1 in
    let step = moved_posted (counters_in s.setup) s.watched s.names s.money (money_after s (Subscriber c.args.supi c.args.account c.args.barred)) c.args.supi c.args.account (at_text s.subscribers c.args.supi) c.in-Subscriber.moving.to c.in-Subscriber.moving.ids.items c.in-Subscriber.moving.notices.items m.to m.ids m.notices.made in
    let new_is : state_seen (record t { count = t.count + 1; names = c.number_name.new.names; subscribers = c.put.new.self; accounts = c.make_moves.new.accounts; watchers = c.move_subscriptions.new.watchers }) ≡ after c.args.self.now.state (Subscriber c.args.supi c.args.account c.args.barred) = search rules in
    record {
      set_up = λ e. i.set_up (ap (λ (m : Machine). m.state.count == 0) c.self.view_is ∙ sym c.requires.order);
      unbarred = i.unbarred;
      places = i.places;
      references = i.references;
      known = i.known;
      ascending = i.ascending;
      below = below_next t.count t.requests.items i.below;
      owned = subst IsOwned (sym new_is) (owned_after c.args.self.now.state (Subscriber c.args.supi c.args.account c.args.barred) (subst IsOwned (ap (λ (x : Machine). x.state) c.self.view_is) i.owned));
      few = let few = i.few in omega arith;
      made = let made = i.made in let more = ap (λ (w : Watched). length w.contexts) c.move_subscriptions.ensures in let same = ap length (posted_contexts t.watchers.of c.in-Subscriber.moving.notices.items) in omega arith;
      limited = i.limited;
      numbered = i.numbered;
    }
