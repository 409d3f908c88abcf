-- The records of a list of commands are those of its filings, each of which may come.
use Rattle.std.proofs.Common.{◌≡◌, ◌≢◌, ◌≤◌, ◌==◌, ℕ, suc, ◌+◌, ◌-◌, Bool, true, false, cond, List, [], ◌∷◌, ◌++◌, length, slice_get, slice_set, Option, Some, None, is_some, refl, sym, ap, ◌∙◌, subst, arith}
use Rattle.std.specs.Prelude.{IsSome}
use mathlib.Core.Bool.{false≢true}
use Rattle.std.proofs.lemmas.Option.{slice_get_past}
use Rattle.units.specs.declared.request.Operation.{Operation}
use Rattle.units.specs.declared.request.Operation.TheVariants.{Create, Update, Release}
use Rattle.units.specs.declared.request.UnitUsage.{UnitUsage}
use Rattle.units.specs.declared.request.Request.{Request}
use Rattle.records.specs.declared.limits.RecordLimits.{RecordLimits}
use Rattle.records.specs.declared.record.Kept.{Kept}
use Rattle.records.specs.declared.filing.Filing.{Filing}
use Rattle.records.specs.declared.filing.Filing.TheVariants.{Begun, Added, Ended, ClosedAll}
use Rattle.records.specs.Closing.{opened}
use Rattle.records.specs.Book.{Session as Filed, Records, open_of, added, ended, after, records_after}
use Rattle.records.specs.Once.{MayAllCome}
use Rattle.chf_core.specs.declared.command.Command.{Command}
use Rattle.chf_core.specs.declared.command.Command.TheVariants.{Setup, Charge, CloseRecords}
use Rattle.chf_core.specs.declared.command.Outcome.{Outcome}
use Rattle.chf_core.specs.declared.decision.Verdict.TheVariants.{Fresh}
use Rattle.chf_core.specs.declared.session.Session.{Session}
use Rattle.chf_core.specs.declared.key.Key.{Key}
use Rattle.chf_core.specs.Operator.{setup_of}
use Rattle.chf_core.specs.Sessions.{id_of, supi_of, sessions, sessions_after, opened as with_opened, write_session, by_reference, with_last, session_at, account_for, opens_by, named_by}
use Rattle.chf_core.specs.Keys.{key_of}
use Rattle.chf_core.specs.Decisions.{decision, at_new}
use Rattle.chf_core.specs.After.{state_of, IsHistory}
use Rattle.chf_core.specs.Filings.{limits_in, filed_usage, release_cause, created_filings, filings_by, filed}
use Rattle.chf_core.specs.Filed.{filings_in, onto, filings, book}
use Rattle.chf_core.specs.Booked.{AreNumbered}
use Rattle.chf_core.proofs.Places.{eq_yes}
use Rattle.chf_core.proofs.Named.{same_number}
use Rattle.chf_core.proofs.Admitted.{length_set}
use Rattle.chf_core.proofs.SessionLists.{at_push, at_set}
use Rattle.chf_core.proofs.Filed.{fresh_number, numbered_filed, sessions_stay, session_opens}
use Rattle.chf_core.proofs.OpenRecords.{reopened_own, reopened_other, entered_own, entered_other, added_open, all_swept_open, all_swept_numbered}
use Rattle.chf_core.proofs.ByKept.{are_fresh, is_new, goes_on}
use Rattle.chf_core.proofs.Entered.{fresh_key}

-- ---- by all filings

filed_onto : (l : RecordLimits) (fs gs : List Filing) → filed l fs (records_after l gs) ≡ records_after l (onto fs gs)
filed_onto l [] gs = refl
filed_onto l (f ∷ fs) gs = filed_onto l fs (f ∷ gs)

-- nothing stands behind a setup
setup_alone : (c : Command) (a : List Command) → true ≡ (length (c ∷ a) == 0) → ⊥
setup_alone c a e = let h : suc (length a) ≡ 0 = same_number (suc (length a)) 0 (sym e) in omega arith

pub records_are : (a : List Command) → IsHistory a → book a ≡ records_after (limits_in (setup_of a)) (filings a)
records_are [] h = refl
records_are (Setup p ∷ []) h = refl
records_are (Setup p ∷ (c ∷ a)) h = absurd (setup_alone c a h.1.0)
records_are (c ∷ a) h =
    ap (filed (limits_in (setup_of a)) (filings_in a c)) (records_are a h.1.1)
    ∙ filed_onto (limits_in (setup_of a)) (filings_in a c) (filings a)

-- ---- one call

module _ (l : RecordLimits) (n : ℕ) (used : List UnitUsage) (stamp : ℕ) (last : Bool) (b : Records) where
  after_own : IsSome (open_of b.sessions n) → IsSome (open_of (after l (Added n used stamp last) b).sessions n)
  after_own h =
      let o = open_of b.sessions n in
      subst (λ (x : Option Kept). IsSome x) (sym (reopened_own b.sessions n (added l used stamp last o b.closed).0 h)) (added_open l used stamp last o b.closed h)

  after_other : (r : ℕ) → n ≢ r → IsSome (open_of b.sessions r) → IsSome (open_of (after l (Added n used stamp last) b).sessions r)
  after_other r d h =
      subst (λ (x : Option Kept). IsSome x) (sym (reopened_other b.sessions n r (added l used stamp last (open_of b.sessions n) b.closed).0 d)) h

end_other : (l : RecordLimits) (n cause stamp : ℕ) (b : Records) (r : ℕ) → n ≢ r → IsSome (open_of b.sessions r) → IsSome (open_of (after l (Ended n cause stamp) b).sessions r)
end_other l n cause stamp b r d h =
    subst (λ (x : Option Kept). IsSome x) (sym (reopened_other b.sessions n r (ended cause stamp (open_of b.sessions n) b.closed).0 d)) h

-- ---- what is kept: each number is that of a session, each open session has an open record, and each call may come

pub record IsKept (l : RecordLimits) (fs : List Filing) (ss : List Session) : Type 0 where
  pub numbered : AreNumbered (length ss) (records_after l fs).sessions
  pub going : (r : ℕ) (z : Session) → by_reference ss r ≡ Some z → z.is_open ≡ true → IsSome (open_of (records_after l fs).sessions r)
  pub may : MayAllCome l fs

none_there : (r : ℕ) (z : Session) (b : Bool) → cond b None (slice_get {X = Session} [] (r - 1)) ≡ Some z → ⊥
none_there r z true e = cc
none_there r z false e = let w = slice_get_past {X = Session} [] (r - 1) (omega arith) in cc

nothing_kept : (l : RecordLimits) → IsKept l [] []
nothing_kept l = record { numbered = tt; going = λ r z e o. absurd (none_there r z (r == 0) e); may = tt }

-- a session begins, and containers come to it
module _ (l : RecordLimits) (fs : List Filing) (ss : List Session) (q : Request) (x : ℕ) (h : IsKept l fs ss) where
  abbrev opening : Filing
  opening = Begun (length ss + 1) (supi_of q.subscriber) q.consumer (id_of q.charging_id) q.stamp

  abbrev begun : Records
  begun = after l opening (records_after l fs)

  abbrev session : Filed
  session = record {
    number = length ss + 1;
    subscriber = supi_of q.subscriber;
    consumer = q.consumer;
    charging_id = id_of q.charging_id;
    unclosed = Some (opened (length ss + 1) q.stamp 1);
  }

  begun_own : IsSome (open_of begun.sessions (length ss + 1))
  begun_own = subst (λ (o : Option Kept). IsSome o) (sym (entered_own (length ss) session (records_after l fs).sessions h.numbered refl)) refl

  abbrev new : Session
  new = record { consumer = q.consumer; charging_id = id_of q.charging_id; supi = supi_of q.subscriber; account = x; last = q.number; is_open = true }

  opens_kept : IsKept l (Added (length ss + 1) (filed_usage q) q.stamp false ∷ opening ∷ fs) (ss ++ new ∷ [])
  opens_kept = record {
    numbered = numbered_filed l Create (length ss) (length (ss ++ new ∷ [])) q true (records_after l fs) (sessions_stay Create q (Some x) ss) (session_opens Create q (Some x) ss) h.numbered;
    going = λ r z e o. by r z (length ss + 1 == r) refl (sym (at_push ss new r) ∙ e) o;
    may = (begun_own, (fresh_number (length ss) (records_after l fs).sessions h.numbered, h.may));
  }
    where
      by : (r : ℕ) (z : Session) (b : Bool) → (length ss + 1 == r) ≡ b → cond b (Some new) (by_reference ss r) ≡ Some z → z.is_open ≡ true
          → IsSome (open_of (after l (Added (length ss + 1) (filed_usage q) q.stamp false) begun).sessions r)
      by r z true t e o =
          subst (λ (m : ℕ). IsSome (open_of (after l (Added (length ss + 1) (filed_usage q) q.stamp false) begun).sessions m)) (same_number (length ss + 1) r t)
          (after_own l (length ss + 1) (filed_usage q) q.stamp false begun begun_own)
      by r z false t e o =
          let d : length ss + 1 ≢ r = λ w. false≢true (sym t ∙ eq_yes (length ss + 1) r w) in
          after_other l (length ss + 1) (filed_usage q) q.stamp false begun r d
          (subst (λ (k : Option Kept). IsSome k) (sym (entered_other session (records_after l fs).sessions r d)) (h.going r z e o))

-- containers come to a session that goes on
module _ (l : RecordLimits) (fs : List Filing) (ss : List Session) (q : Request) (p : ℕ) (x : Session) (h : IsKept l fs ss) (at : by_reference ss p ≡ Some x) (o : x.is_open ≡ true) where
  there : IsSome (open_of (records_after l fs).sessions p)
  there = h.going p x at o

  abbrev next : Bool → Session
  next live = with_last q.number live x

  same_length : (live : Bool) → length (slice_set ss (p - 1) (next live)) ≡ length ss
  same_length live = length_set ss (p - 1) (next live)

  numbered_by : (op : Operation) (live : Bool) (opens : Bool) → (opens ≡ true → length ss + 1 ≤ length ss) → AreNumbered (length (slice_set ss (p - 1) (next live))) (filed l (filings_by op (length ss) q opens) (records_after l fs)).sessions
  numbered_by op live opens more =
      subst (λ (m : ℕ). AreNumbered m (filed l (filings_by op (length ss) q opens) (records_after l fs)).sessions) (sym (same_length live))
      (numbered_filed l op (length ss) (length ss) q opens (records_after l fs) (omega arith) more h.numbered)

  abbrev come : Bool → Filing
  come last = Added p (filed_usage q) q.stamp last

  updates_kept : IsKept l (come false ∷ fs) (slice_set ss (p - 1) (next true))
  updates_kept = record {
    numbered = numbered_by (Update p) true false (λ e. absurd (false≢true e));
    going = λ r z e w. by r z (p == r) refl (sym (at_set ss p r x (next true) at) ∙ e) w;
    may = (there, h.may);
  }
    where
      by : (r : ℕ) (z : Session) (b : Bool) → (p == r) ≡ b → cond b (Some (next true)) (by_reference ss r) ≡ Some z → z.is_open ≡ true
          → IsSome (open_of (after l (come false) (records_after l fs)).sessions r)
      by r z true t e w =
          subst (λ (m : ℕ). IsSome (open_of (after l (come false) (records_after l fs)).sessions m)) (same_number p r t)
          (after_own l p (filed_usage q) q.stamp false (records_after l fs) there)
      by r z false t e w =
          after_other l p (filed_usage q) q.stamp false (records_after l fs) r (λ g. false≢true (sym t ∙ eq_yes p r g)) (h.going r z e w)

  -- and it ends
  abbrev end : Filing
  end = Ended p (release_cause q) q.stamp

  releases_kept : IsKept l (end ∷ come true ∷ fs) (slice_set ss (p - 1) (next false))
  releases_kept = record {
    numbered = numbered_by (Release p) false false (λ e. absurd (false≢true e));
    going = λ r z e w. by r z (p == r) refl (sym (at_set ss p r x (next false) at) ∙ e) w;
    may = (tt, (there, h.may));
  }
    where
      by : (r : ℕ) (z : Session) (b : Bool) → (p == r) ≡ b → cond b (Some (next false)) (by_reference ss r) ≡ Some z → z.is_open ≡ true
          → IsSome (open_of (after l end (after l (come true) (records_after l fs))).sessions r)
      by r z true t e w = let g : next false ≡ z = cc in absurd (false≢true (ap (λ (y : Session). y.is_open) g ∙ w))
      by r z false t e w =
          let d : p ≢ r = λ g. false≢true (sym t ∙ eq_yes p r g) in
          end_other l p (release_cause q) q.stamp (after l (come true) (records_after l fs)) r d
          (after_other l p (filed_usage q) q.stamp true (records_after l fs) r d (h.going r z e w))

-- ---- one command

-- a request that is fresh
charge_kept : (a : List Command) (q : Request) (o : Outcome) → decision a (Charge q) ≡ Fresh o
    → IsKept (limits_in (setup_of a)) (filings a) (sessions a) → IsKept (limits_in (setup_of a)) (filings (Charge q ∷ a)) (sessions (Charge q ∷ a))
charge_kept a q o d h = by q.operation refl (is_new a q o k.0 k.1 d)
  where
    k : (k : Key) × (key_of a q ≡ Some k)
    k = fresh_key a q o d

    l : RecordLimits
    l = limits_in (setup_of a)

    create : (w : Option ℕ) → IsKept l (onto (created_filings (length (sessions a) + 1) q (is_some w)) (filings a)) (with_opened q w (sessions a))
    create None = h
    create (Some x) = opens_kept l (filings a) (sessions a) q x h

    by : (op : Operation) → q.operation ≡ op → at_new q.operation a q (named_by q.operation a q) ≡ Fresh o
        → IsKept l (onto (filings_by op (length (sessions a)) q (opens_by op (account_for a q.subscriber))) (filings a)) (sessions_after op q (account_for a q.subscriber) (sessions a))
    by Create e n = create (account_for a q.subscriber)
    by (Update p) e n =
        let g = goes_on a q o (session_at a p) (sym (ap (λ op. at_new op a q (named_by op a q)) e) ∙ n) in
        subst (λ (ss : List Session). IsKept l (Added p (filed_usage q) q.stamp false ∷ filings a) ss) (sym (ap (write_session (sessions a) p q.number true) g.1))
        (updates_kept l (filings a) (sessions a) q p g.0 h g.1 g.2)
    by (Release p) e n =
        let g = goes_on a q o (session_at a p) (sym (ap (λ op. at_new op a q (named_by op a q)) e) ∙ n) in
        subst (λ (ss : List Session). IsKept l (Ended p (release_cause q) q.stamp ∷ Added p (filed_usage q) q.stamp true ∷ filings a) ss)
        (sym (ap (write_session (sessions a) p q.number false) g.1))
        (releases_kept l (filings a) (sessions a) q p g.0 h g.1 g.2)

-- all records that have a container are closed
closes_kept : (l : RecordLimits) (fs : List Filing) (ss : List Session) (moment : ℕ) → IsKept l fs ss → IsKept l (ClosedAll moment ∷ fs) ss
closes_kept l fs ss moment h = record {
  numbered = all_swept_numbered (length ss) (records_after l fs).sessions moment (records_after l fs).closed h.numbered;
  going = λ r z e o. all_swept_open (records_after l fs).sessions r moment (records_after l fs).closed (h.going r z e o);
  may = (tt, h.may);
}

-- ---- every list that came to be

pub are_kept : (a : List Command) → IsHistory a → IsKept (limits_in (setup_of a)) (filings a) (sessions a)
are_kept [] h = nothing_kept (limits_in None)
are_kept (Setup p ∷ []) h = nothing_kept (limits_in (Some p))
are_kept (Setup p ∷ (c ∷ a)) h = absurd (setup_alone c a h.1.0)
are_kept (Charge q ∷ a) h = let f = are_fresh (Charge q ∷ a) h in charge_kept a q f.0.0 f.0.1 (are_kept a h.1.1)
are_kept (CloseRecords moment ∷ a) h = closes_kept (limits_in (setup_of a)) (filings a) (sessions a) moment (are_kept a h.1.1)
are_kept (c ∷ a) h = are_kept a h.1.1
