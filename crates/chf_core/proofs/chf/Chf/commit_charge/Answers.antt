use Rattle.std.proofs.Common.{rules, ◌≡◌, ℕ, ◌==◌, ◌&&◌, ◌+◌, List, length, map as each, reverse, find, cond, is_some, option_map, Some, None, refl, sym, ap, ◌∙◌, subst, arith}
use Rattle.chf_core.specs.declared.command.Command.TheVariants.{Charge}
use Rattle.sessions.specs.Content.{content}
use Rattle.chf_core.specs.declared.decision.Change.TheVariants as change
use Rattle.chf_core.specs.declared.session.Session.{Session}
use Rattle.chf_core.specs.declared.kept_request.KeptRequest.{KeptRequest}
use Rattle.chf_core.specs.Sessions.{same_session, name, id_of, sessions_after, opens_by}
use Rattle.chf_core.specs.Keys.{key, key_eq}
use Rattle.chf_core.specs.State.{State, account_for, name_of, reference_in, kept_key, place_of}
use Rattle.notices.specs.Watched.{Watched}
use Rattle.chf_core.specs.Spending.{counters_in}
use Rattle.chf_core.specs.CommandMoves.{target_of}
use Rattle.chf_core.specs.CommandSteps.{money_after}
use Rattle.chf_core.specs.After.{after as after_command}
use Rattle.chf_core.specs.Owners.{IsOwned}
use Rattle.chf_core.specs.Placed.{AreAscending, AreBelow}
use Rattle.chf_core.specs.Machine.{Machine, Writes}
use Rattle.chf_core.specs.Caches.{state_seen}
use Rattle.records.specs.Book.{Records, session_of}
use Rattle.chf_core.specs.Filings.{limits_in, filings_by, filed}
use Rattle.chf_core.specs.Booked.{AreNumbered}
use Rattle.chf_core.proofs.Filed.{numbered_filed, sessions_stay, session_opens, opens_session, fresh_number}
use Rattle.chf_core.proofs.Few.{one_after}
use Rattle.chf_core.proofs.Charging.{opened_one}
use Rattle.chf_core.proofs.JoinedParts.{reference_after}
use Rattle.chf_core.proofs.JoinedRequests.{place_push}
use Rattle.chf_core.proofs.EnteredKeys.{fresh_place, entered_first}
use Rattle.chf_core.proofs.OwnedState.{owned_after}
use Rattle.chf_core.proofs.Stepped.{charged_posted, posted_contexts}
use Rattle.chf_core.proofs.PlacedRequests.{ascending_push, below_push}
use Rattle.chf_core.proofs.chf.Chf.commit_charge.Goals as goal

pub file-requires-clause-fresh : goal.file-requires-clause-fresh
file-requires-clause-fresh c =
    let len : c.len.result ≡ length c.self.inside.sessions.items = search rules in
    subst (λ (n : ℕ). session_of c.self.inside.book.records.sessions (n + 1) ≡ None) (sym len) (fresh_number _ _ c.self.invariant.numbered)

pub invariant_of-self : goal.invariant_of-self
invariant_of-self c =
    let t = c.self.inside in
    let i = c.self.invariant in
    let s = c.args.self.now.state in
    let seen : state_seen t ≡ s = ap (λ (x : Machine). x.state) c.self.view_is in
    let q = c.args.request in
    let id = c.in-Charge.charging_id in
    let account = account_for s q.subscriber in
    let ss = t.sessions.items in
    let rs = t.requests.items in
    let writes : Writes c.args.self.now (Charge q) (change.Charge id c.in-Charge.session c.in-Charge.consumer c.in-Charge.names c.in-Charge.used c.in-Charge.notices) =
    subst (Writes c.args.self.now (Charge q)) c.in-Charge.is c.requires.worked_out.change in
    let own = key q.consumer id q.number in
    let entry : KeptRequest = record { place = t.count; charging_id = id; request = content q; outcome = c.args.outcome } in
    let len : c.len.result ≡ length ss = search rules in
    let opens = writes.1.1.1.0.opens ∙ ap is_some writes.1.0 ∙ opens_session q.operation q account in
    let records : c.file.new.book.records ≡ filed (limits_in s.setup) (filings_by q.operation (length s.sessions) q (opens_by q.operation account)) s.book = c.file.ensures.records ∙ (λ j. filed t.book.limits (filings_by q.operation (len j) q (is_some c.in-Charge.names)) t.book.records) ∙ (λ j. filed ((i.limited ∙ ap (λ (x : State). limits_in x.setup) seen) j) (filings_by q.operation (length (seen j).sessions) q (opens j)) (seen j).book) in
    let step = charged_posted (counters_in s.setup) s.watched s.money (money_after s (Charge q)) (target_of s q) c.in-Charge.notices.items writes.1.1.1.1.made in
    let new_is : state_seen (record t { count = t.count + 1; sessions = c.enter_session.new.sessions; accounts = c.make_moves.new.accounts; watchers = c.post.new.self; book = c.file.new.book; requests = c.push_reserved.new.self; keyed = c.enter_key.new.keyed }) ≡ after_command s (Charge q) = search rules in
    let after = c.enter_session.ensures account writes.1.0 in
    let reference = c.reference_for-reference.ensures ∙ (λ j. option_map (λ _. length (c.deref.ensures.value j) + 1) (writes.1.0 j)) in
    let none : place_of (state_seen t) own ≡ None = ap (λ (x : State). place_of x own) seen ∙ fresh_place s q own c.args.outcome writes.0 c.requires.fresh in
    record {
      set_up = λ e. i.set_up (ap (λ (m : Machine). m.state.count == 0) c.self.view_is ∙ sym c.requires.order);
      unbarred = i.unbarred;
      places = λ k.
          c.enter_key.ensures.places k ∙ ap (cond (key_eq own k) (Some t.count)) (i.places k)
          ∙ entered_first (place_of (state_seen t)) own k t.count none
          ∙ sym (ap (λ (l : List KeptRequest). option_map (λ (r : KeptRequest). r.place) (find (λ r. key_eq (kept_key r) k) l)) c.push_reserved.ensures.items ∙ place_push rs entry k);
      references = λ n.
          c.enter_key.ensures.references n ∙ (λ j. cond (is_some (reference j) && same_session (name q.consumer (id_of q.charging_id)) n) (reference j) (i.references n j))
          ∙ opened_one q.operation q account (length ss + 1) (same_session (name q.consumer (id_of q.charging_id)) n) _
          ∙ sym (ap (λ (l : List Session). reference_in (reverse (each name_of l)) n) after ∙ reference_after q.operation q account ss n);
      known = c.enter_key.ensures.known;
      ascending = subst (AreAscending 0) (sym c.push_reserved.ensures.items) (ascending_push 0 rs entry (omega arith) i.ascending i.below);
      below = subst (AreBelow (t.count + 1)) (sym c.push_reserved.ensures.items) (below_push t.count rs entry refl i.below);
      owned = subst IsOwned (sym new_is) (owned_after s (Charge q) (subst IsOwned seen i.owned));
      limited = c.file.ensures.limits ∙ i.limited;
      numbered = subst (λ (l : List Session). AreNumbered (length l) c.file.new.book.records.sessions) (sym after)
          (subst (λ (r : Records). AreNumbered (length (sessions_after q.operation q account ss)) r.sessions) (sym (c.file.ensures.records ∙ (λ j. filed t.book.limits (filings_by q.operation (len j) q (is_some c.in-Charge.names)) t.book.records)))
          (numbered_filed t.book.limits q.operation (length ss) _ q (is_some c.in-Charge.names) t.book.records (sessions_stay q.operation q account ss) (λ e. session_opens q.operation q account ss (sym opens ∙ e)) i.numbered));
      made = let made = i.made in let more = ap (λ (w : Watched). length w.contexts) c.post.ensures.posted in let same = ap length (posted_contexts t.watchers.of c.in-Charge.notices.items) in omega arith;
      few = let one = one_after q.operation q account ss in let same = ap length after in let few = i.few in omega arith;
    }
