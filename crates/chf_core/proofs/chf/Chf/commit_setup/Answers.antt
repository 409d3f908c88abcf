use Rattle.std.proofs.Common.{rules, ◌≡◌, ◌+◌, Some, length, refl, sym, ap, ◌∙◌, subst, arith}
use Rattle.chf_core.specs.declared.command.Command.TheVariants.{Setup}
use Rattle.chf_core.specs.After.{after}
use Rattle.chf_core.specs.Owners.{IsOwned}
use Rattle.records.specs.Book.{Records}
use Rattle.chf_core.specs.Booked.{AreNumbered}
use Rattle.chf_core.specs.Machine.{Machine, Writes}
use Rattle.chf_core.specs.Caches.{state_seen}
use Rattle.chf_core.proofs.OwnedState.{owned_after}
use Rattle.chf_core.proofs.PlacedRequests.{below_next}
use Rattle.chf_core.proofs.chf.Chf.commit_setup.Goals as goal

pub invariant_of-self : goal.invariant_of-self
invariant_of-self c =
    let t = c.self.inside in
    let i = c.self.invariant in
    let new_is : state_seen (record t { setup = Some c.args.setup; count = t.count + 1; book = c.limit.new.self }) ≡ after c.args.self.now.state (Setup c.args.setup) = search rules in
    record {
      set_up = λ e. refl;
      unbarred = i.unbarred;
      places = i.places;
      references = i.references;
      known = i.known;
      ascending = i.ascending;
      below = below_next t.count t.requests.items i.below;
      owned = subst IsOwned (sym new_is) (owned_after c.args.self.now.state (Setup c.args.setup) (subst IsOwned (ap (λ (x : Machine). x.state) c.self.view_is) i.owned));
      few = let few = i.few in omega arith;
      made = let made = i.made in omega arith;
      limited = c.limit.ensures.limits ∙ (subst (Writes c.args.self.now (Setup c.args.setup)) c.in-Setup.is c.requires.worked_out.change);
      numbered = subst (λ (r : Records). AreNumbered (length t.sessions.items) r.sessions) (sym c.limit.ensures.records) i.numbered;
    }
