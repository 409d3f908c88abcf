use Rattle.std.proofs.Common.{rules, ◌≡◌, ◌==◌, ◌+◌, length, sym, ap, ◌∙◌, subst, arith}
use Rattle.chf_core.specs.declared.command.Command.TheVariants.{CloseRecords}
use Rattle.records.specs.Book.{Records}
use Rattle.chf_core.specs.After.{after}
use Rattle.chf_core.specs.Owners.{IsOwned}
use Rattle.chf_core.specs.Booked.{AreNumbered}
use Rattle.chf_core.specs.Machine.{Machine}
use Rattle.chf_core.specs.Caches.{state_seen}
use Rattle.chf_core.proofs.OpenRecords.{all_swept_numbered}
use Rattle.chf_core.proofs.OwnedState.{owned_after}
use Rattle.chf_core.proofs.PlacedRequests.{below_next}
use Rattle.chf_core.proofs.chf.Chf.commit_close.Goals as goal

pub invariant_of-self : goal.invariant_of-self
invariant_of-self c =
    let t = c.self.inside in
    let i = c.self.invariant in
    let new_is : state_seen (record t { count = t.count + 1; book = c.close_all.new.self }) ≡ after c.args.self.now.state (CloseRecords c.args.moment) = search rules in
    record {
      set_up = λ e. i.set_up (ap (λ (m : Machine). m.state.count == 0) c.self.view_is ∙ sym c.requires.order);
      unbarred = i.unbarred;
      places = i.places;
      references = i.references;
      known = i.known;
      ascending = i.ascending;
      below = below_next t.count t.requests.items i.below;
      owned = subst IsOwned (sym new_is) (owned_after c.args.self.now.state (CloseRecords c.args.moment) (subst IsOwned (ap (λ (x : Machine). x.state) c.self.view_is) i.owned));
      few = let few = i.few in omega arith;
      made = let made = i.made in omega arith;
      limited = c.close_all.ensures.limits ∙ i.limited;
      numbered = subst (λ (r : Records). AreNumbered (length t.sessions.items) r.sessions) (sym c.close_all.ensures.records)
          (all_swept_numbered (length t.sessions.items) t.book.records.sessions c.args.moment t.book.records.closed i.numbered);
    }
