use Rattle.std.proofs.Common.{◌≡◌, List, length, map as each, reverse, find, option_map, Some, IfSome, sym, ap, ◌∙◌, subst, arith}
use Rattle.std.specs.FinMap as map
use Rattle.accounts.specs.Reservations.{key_cmp}
use Rattle.chf_core.specs.declared.kept_request.KeptRequest.{KeptRequest}
use Rattle.chf_core.specs.declared.session.Session.{Session}
use Rattle.chf_core.specs.Keys.{key_eq}
use Rattle.chf_core.specs.Placed.{AreAscending, AreBelow}
use Rattle.chf_core.specs.Owners.{IsOwned}
use Rattle.chf_core.specs.State.{State, nothing_yet, session_at, kept_key, name_of, reference_in}
use Rattle.notices.specs.Watched.{Watched}
use Rattle.chf_core.proofs.Filed.{none_numbered}
use Rattle.chf_core.proofs.chf.Chf.new.Goals as goal

pub invariant_of-result : goal.invariant_of-result
invariant_of-result c =
    let k = c.new-8.ensures in
    let sessions = c.new-4.ensures.items in
    let requests = c.new-7.ensures.items in
    record {
      set_up = λ e. absurd (cc);
      unbarred = c.none.ensures;
      places = λ x. k.places x ∙ sym (ap (λ (l : List KeptRequest). option_map (λ (r : KeptRequest). r.place) (find (λ r. key_eq (kept_key r) x) l)) requests);
      references = λ n. k.references n ∙ sym (ap (λ (l : List Session). reference_in (reverse (each name_of l)) n) sessions);
      known = k.known;
      ascending = subst (AreAscending 0) (sym requests) tt;
      below = subst (AreBelow 0) (sym requests) tt;
      owned = subst (λ (s : State). IsOwned s) (sym (λ i. record nothing_yet { sessions = sessions i; money = c.new-5.ensures i; book = c.empty.ensures.records i })) (λ x. subst (λ o. IfSome o (λ r. option_map (λ (z : Session). z.account) (session_at nothing_yet x.session) ≡ Some r.account)) (sym (map.get-empty key_cmp x)) tt);
      few = let e = ap length sessions in omega arith;
      made = let e = ap (λ (w : Watched). length w.contexts) c.new-6.ensures in omega arith;
      limited = c.empty.ensures.limits;
      numbered = none_numbered _ _ c.empty.ensures.records;
    }
