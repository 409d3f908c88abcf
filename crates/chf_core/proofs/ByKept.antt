-- In a list that came to be each session is what its kept requests say: it is there where one was accepted, its last
-- number is that of the newest accepted one, it is open where none of these is a Release; and no two have one name.
use Rattle.std.proofs.Common.{◌≡◌, ◌≢◌, ◌==◌, ◌&&◌, not, nat_le, ℕ, ◌+◌, ◌-◌, Bool, true, false, cond, List, [], ◌∷◌, ◌++◌, length, slice_set, Option, Some, None, refl, sym, ap, ◌∙◌, subst, arith, ⊎_elim, ◌⊎◌, inl, inr}
use Rattle.units.specs.declared.request.Operation.{Operation}
use Rattle.units.specs.declared.request.Operation.TheVariants.{Create, Update, Release}
use Rattle.units.specs.declared.request.Request.{Request}
use Rattle.units.specs.declared.reply.Reply.{Reply}
use Rattle.sessions.specs.Content.{content}
use Rattle.sessions.specs.Kept.{Kept as KeptRequest, accepted, has_release, is_release, is_success}
use Rattle.chf_core.specs.declared.command.Command.{Command}
use Rattle.chf_core.specs.declared.command.Command.TheVariants.{Charge}
use Rattle.chf_core.specs.declared.command.Outcome.{Outcome}
use Rattle.chf_core.specs.declared.command.Outcome.TheVariants.{Charged}
use Rattle.chf_core.specs.declared.decision.Verdict.TheVariants.{Fresh, Refused}
use Rattle.chf_core.specs.declared.refusal.ChfRefusal.TheVariants.{SessionClosed, SequencePassed}
use Rattle.chf_core.specs.declared.session.Session.{Session}
use Rattle.chf_core.specs.declared.key.Name.{Name}
use Rattle.chf_core.specs.declared.key.Key.{Key}
use Rattle.chf_core.specs.Sessions.{sessions, sessions_after, opened, write_session, with_last, by_reference, session_at, same_session, name, id_of, supi_of, account_for, opens_by, reference_of, session_for, named_by}
use Rattle.chf_core.specs.Keys.{key_by, key_in, key_of}
use Rattle.chf_core.specs.Money.{first_reply, reply_by, created}
use Rattle.chf_core.specs.Decisions.{decision, at_key, at_place, at_new, at_new_create, at_new_later}
use Rattle.chf_core.specs.KeptRequests.{is_of, kept_of, AreFresh}
use Rattle.chf_core.specs.State as state
use Rattle.chf_core.specs.State.{name_of}
use Rattle.chf_core.specs.After.{state_of, IsHistory}
use Rattle.chf_core.specs.Standing.{IsBy, IsByKept}
use Rattle.chf_core.proofs.JoinedParts.{sessions_are, references_are}
use Rattle.chf_core.proofs.JoinedRequests.{decision_is}
use Rattle.chf_core.proofs.Places.{eq_yes, eq_no}
use Rattle.chf_core.proofs.Named.{same_number}
use Rattle.chf_core.proofs.SessionLists.{at_push, at_set, within, same_itself, names_same, fails, of_key}
use Rattle.chf_core.proofs.Entered.{fresh_key}
use Rattle.chf_core.proofs.Keyed.{fresh_place}

pub record AreBySession (a : List Command) : Type 0 where
  pub back : (r : ℕ) (z : Session) → session_at a r ≡ Some z → reference_of a (name_of z) ≡ Some r
  pub valid : (n : Name) (r : ℕ) → reference_of a n ≡ Some r
      → (z : Session) × (session_at a r ≡ Some z) × (name_of z ≡ n)
  pub none : (n : Name) → reference_of a n ≡ None → accepted (kept_of a n) ≡ []
  pub some : (r : ℕ) (z : Session) → session_at a r ≡ Some z → IsBy z (accepted (kept_of a (name_of z)))

-- ---- a request that is not accepted

module _ (a : List Command) (q : Request) where
  -- a kept request that is refused is not accepted
  pub not_accepted : (b : Bool) (p : Reply) (l : List KeptRequest) → is_success p ≡ false
      → accepted (cond b (record { request = content q; reply = p } ∷ l) l) ≡ accepted l
  not_accepted true p l e = ap (λ s. cond s (content q ∷ accepted l) (accepted l)) e
  not_accepted false p l e = refl

  is_accepted : (b : Bool) (p : Reply) (l : List KeptRequest) → b ≡ true → is_success p ≡ true
      → accepted (cond b (record { request = content q; reply = p } ∷ l) l) ≡ content q ∷ accepted l
  is_accepted b p l e s = ap (λ x. accepted (cond x (record { request = content q; reply = p } ∷ l) l)) e
      ∙ ap (λ x. cond x (content q ∷ accepted l) (accepted l)) s

  other : (b : Bool) (p : Reply) (l : List KeptRequest) → b ≡ false
      → accepted (cond b (record { request = content q; reply = p } ∷ l) l) ≡ accepted l
  other b p l e = ap (λ x. accepted (cond x (record { request = content q; reply = p } ∷ l) l)) e

-- ---- one step

-- the parts of a list with one request more, by its operation, its subscriber's account and the sessions after it
pub record Steps (a : List Command) (q : Request) (op : Operation) (account : Option ℕ)
    (zz : List Session) : Type 0 where
  pub back : (r : ℕ) (z : Session) → by_reference zz r ≡ Some z
      → cond (opens_by op account && same_session (name q.consumer (id_of q.charging_id)) (name_of z))
      (Some (length (sessions a) + 1)) (reference_of a (name_of z)) ≡ Some r
  pub valid : (n : Name) (r : ℕ)
      → cond (opens_by op account && same_session (name q.consumer (id_of q.charging_id)) n)
      (Some (length (sessions a) + 1)) (reference_of a n) ≡ Some r
      → (z : Session) × (by_reference zz r ≡ Some z) × (name_of z ≡ n)
  pub none : (n : Name)
      → cond (opens_by op account && same_session (name q.consumer (id_of q.charging_id)) n)
      (Some (length (sessions a) + 1)) (reference_of a n) ≡ None
      → accepted (cond (is_of (key_by op a q) n) (record { request = content q; reply = reply_by op a q } ∷ kept_of a n)
      (kept_of a n)) ≡ []
  pub some : (r : ℕ) (z : Session) → by_reference zz r ≡ Some z
      → IsBy z (accepted
      (cond (is_of (key_by op a q) (name_of z))
      (record { request = content q; reply = reply_by op a q } ∷ kept_of a (name_of z)) (kept_of a (name_of z))))

-- a Create whose subscriber has no account
no_account : (a : List Command) (q : Request) → AreBySession a → account_for a q.subscriber ≡ None
    → Steps a q Create None (sessions a)
no_account a q h e =
    let refused : is_success (reply_by Create a q) ≡ false = ap (λ o. is_success (created a q o)) e in
    record {
      back = h.back;
      valid = h.valid;
      none = λ n w. not_accepted a q (is_of (key_by Create a q) n) (reply_by Create a q) (kept_of a n) refused
          ∙ h.none n w;
      some = λ r z w. subst (IsBy z)
          (sym (not_accepted a q (is_of (key_by Create a q) (name_of z)) (reply_by Create a q)
          (kept_of a (name_of z)) refused)) (h.some r z w);
    }

-- a Create that opens a session: its name had none
module _ (a : List Command) (q : Request) (h : AreBySession a) (n : ℕ) where
  abbrev new : Session
  new = record {
    consumer = q.consumer;
    charging_id = id_of q.charging_id;
    supi = supi_of q.subscriber;
    account = n;
    last =
        q.number;
    is_open = true;
  }

  abbrev mine : Name
  mine = name q.consumer (id_of q.charging_id)

  -- by place: the new one, or one that was there, which has another name
  one_of : reference_of a mine ≡ None → (r : ℕ) (z : Session) → by_reference (sessions a ++ new ∷ []) r ≡ Some z
      → ((length (sessions a) + 1 ≡ r) × (new ≡ z))
      ⊎ ((by_reference (sessions a) r ≡ Some z) × (same_session mine (name_of z) ≡ false))
  one_of none r z w = by (length (sessions a) + 1 == r) refl (sym (at_push (sessions a) new r) ∙ w)
    where
      by : (b : Bool) → (length (sessions a) + 1 == r) ≡ b → cond b (Some new) (by_reference (sessions a) r) ≡ Some z
          → ((length (sessions a) + 1 ≡ r) × (new ≡ z))
          ⊎ ((by_reference (sessions a) r ≡ Some z) × (same_session mine (name_of z) ≡ false))
      by true e f = inl (same_number (length (sessions a) + 1) r e, let g : new ≡ z = cc in g)
      by false e f =
          inr (
            f,
            fails (same_session mine (name_of z))
                (λ t. let g : None ≡ Some r = sym none ∙ ap (reference_of a) (names_same mine (name_of z) t)
                ∙ h.back r z f in cc),
          )

  past : length (sessions a) + 1 ≢ 0
  past w = let g : length (sessions a) + 1 ≡ 0 = w in omega arith

  opens_one : (op : Operation) → q.operation ≡ op → op ≡ Create → reference_of a mine ≡ None
      → is_success (reply_by Create a q) ≡ true → Steps a q Create (Some n) (sessions a ++ new ∷ [])
  opens_one op eo ec none good = record {
    back = λ r z w. ⊎_elim
        (λ (x : (length (sessions a) + 1 ≡ r) × (new ≡ z)).
        ap (λ b. cond b (Some (length (sessions a) + 1)) (reference_of a (name_of z)))
        (ap (λ y. same_session mine (name_of y)) (sym x.1) ∙ same_itself mine) ∙ ap Some x.0)
        (λ (x : (by_reference (sessions a) r ≡ Some z) × (same_session mine (name_of z) ≡ false)).
        ap (λ b. cond b (Some (length (sessions a) + 1)) (reference_of a (name_of z))) x.1 ∙ h.back r z x.0)
        (one_of none r z w);
    valid = λ m r w. found m r (same_session mine m) refl w;
    none = λ m w.
        (let x = unnamed m (same_session mine m) refl w in other a q (same_session mine m) (reply_by Create a q)
        (kept_of a m) x.0 ∙ h.none m x.1);
    some = λ r z w. ⊎_elim
        (λ (x : (length (sessions a) + 1 ≡ r) × (new ≡ z)). subst
        (λ y. IsBy y
        (accepted (cond (same_session mine (name_of y))
        (record { request = content q; reply = reply_by Create a q } ∷ kept_of a (name_of y)) (kept_of a (name_of y))))) x.1
        first)
        (λ (x : (by_reference (sessions a) r ≡ Some z) × (same_session mine (name_of z) ≡ false)).
        subst (IsBy z)
        (sym (other a q (same_session mine (name_of z)) (reply_by Create a q) (kept_of a (name_of z)) x.1))
        (h.some r z x.0))
        (one_of none r z w);
  }
    where
      found : (m : Name) (r : ℕ) (b : Bool) → same_session mine m ≡ b
          → cond b (Some (length (sessions a) + 1)) (reference_of a m) ≡ Some r
          → (z : Session) × (by_reference (sessions a ++ new ∷ []) r ≡ Some z) × (name_of z ≡ m)
      found m r true t w = let g : length (sessions a) + 1 ≡ r =
          cc in (
            new,
            at_push (sessions a) new r
                ∙ ap (λ b. cond b (Some new) (by_reference (sessions a) r)) (eq_yes (length (sessions a) + 1) r g),
            names_same mine m t,
          )
      found m r false t w = let f = h.valid m r w in (
        f.0,
        at_push (sessions a) new r
            ∙ ap (λ b. cond b (Some new) (by_reference (sessions a) r))
            (eq_no (length (sessions a) + 1) r (λ g. let z = within (sessions a) r f.0 f.1 in
            let e : length (sessions a) + 1 ≡ r = g in omega arith)) ∙ f.1,
        f.2,
      )

      unnamed : (m : Name) (b : Bool) → same_session mine m ≡ b
          → cond b (Some (length (sessions a) + 1)) (reference_of a m) ≡ None
          → (same_session mine m ≡ false) × (reference_of a m ≡ None)
      unnamed m true e w = absurd (cc)
      unnamed m false e w = (e, w)

      all : accepted
          (cond (same_session mine mine) (record { request = content q; reply = reply_by Create a q } ∷ kept_of a mine)
          (kept_of a mine)) ≡ content q ∷ []
      all = is_accepted a q (same_session mine mine) (reply_by Create a q) (kept_of a mine) (same_itself mine) good
          ∙ ap (λ l. content q ∷ l) (h.none mine none)

      first : IsBy new
          (accepted (cond (same_session mine mine)
          (record { request = content q; reply = reply_by Create a q } ∷ kept_of a mine) (kept_of a mine)))
      first = subst (IsBy new) (sym all) (record {
        last = refl;
        goes_on = ap (λ o. cond (is_release o) true false) (eo ∙ ec);
        any = λ w. let g : ◌≡◌ {A = List Request} (content q ∷ []) [] = w in absurd (cc);
      })

-- an Update or Release of a session
module _ (a : List Command) (q : Request) (h : AreBySession a) (p : ℕ) (x : Session)
    (at : by_reference (sessions a) p ≡ Some x) (live : Bool) where
  abbrev next : Session
  next = with_last q.number live x

  place_of_one : (r : ℕ) (z : Session) → by_reference (slice_set (sessions a) (p - 1) next) r ≡ Some z
      → ((p ≡ r) × (next ≡ z)) ⊎ ((by_reference (sessions a) r ≡ Some z) × (same_session (name_of x) (name_of z) ≡ false))
  place_of_one r z w = by (p == r) refl (sym (at_set (sessions a) p r x next at) ∙ w)
    where
      by : (b : Bool) → (p == r) ≡ b → cond b (Some next) (by_reference (sessions a) r) ≡ Some z
          → ((p ≡ r) × (next ≡ z))
          ⊎ ((by_reference (sessions a) r ≡ Some z) × (same_session (name_of x) (name_of z) ≡ false))
      by true e f = inl (same_number p r e, let g : next ≡ z = cc in g)
      by false e f = inr (
        f,
        fails (same_session (name_of x) (name_of z)) (λ t.
            let g : Some p ≡ Some r = sym (h.back p x at) ∙ ap (reference_of a) (names_same (name_of x) (name_of z) t)
            ∙ h.back r z f in
            let k : p ≡ r = cc in let y : false ≡ true = sym e ∙ eq_yes p r k in cc),
      )

  still_there : (r : ℕ) (z : Session) → by_reference (sessions a) r ≡ Some z
      → (y : Session) × (by_reference (slice_set (sessions a) (p - 1) next) r ≡ Some y) × (name_of y ≡ name_of z)
  still_there r z w = by (p == r) refl
    where
      by : (b : Bool) → (p == r) ≡ b
          → (y : Session) × (by_reference (slice_set (sessions a) (p - 1) next) r ≡ Some y) × (name_of y ≡ name_of z)
      by true e =
          let g : Some x ≡ Some z = sym at ∙ ap (by_reference (sessions a)) (same_number p r e) ∙ w in
          let s : x ≡ z = cc in (
            next,
            at_set (sessions a) p r x next at ∙ ap (λ b. cond b (Some next) (by_reference (sessions a) r)) e,
            ap name_of s,
          )
      by false e = (
        z,
        at_set (sessions a) p r x next at ∙ ap (λ b. cond b (Some next) (by_reference (sessions a) r)) e ∙ w,
        refl,
      )

  writes_one : (op : Operation) (account : Option ℕ) (k : Key) → opens_by op account ≡ false → key_by op a q ≡ Some k
      → k.session ≡ name_of x → is_success (reply_by op a q) ≡ true → is_release q.operation ≡ not live → x.is_open ≡ true
      → Steps a q op account (slice_set (sessions a) (p - 1) next)
  writes_one op account k shut own named good rel was = record {
    back = λ r z w. same_reference (name_of z) ∙ ⊎_elim
        (λ (y : (p ≡ r) × (next ≡ z)). ap (λ (v : Session). reference_of a (name_of v)) (sym y.1) ∙ h.back p x at
        ∙ ap Some y.0)
        (λ (y : (by_reference (sessions a) r ≡ Some z) × (same_session (name_of x) (name_of z) ≡ false)). h.back r z
        y.0)
        (place_of_one r z w);
    valid = λ n r w. (let v = h.valid n r (sym (same_reference n) ∙ w) in let y = still_there r v.0 v.1 in
        (y.0, y.1, y.2 ∙ v.2));
    none = λ n w. (let e = sym (same_reference n) ∙ w in
        other a q (is_of (key_by op a q) n) (reply_by op a q) (kept_of a n)
        (of_it n ∙ fails (same_session (name_of x) n)
        (λ t. let g : Some p ≡ None = sym (h.back p x at) ∙ ap (reference_of a) (names_same (name_of x) n t)
        ∙ e in cc)) ∙ h.none n e);
    some = λ r z w. ⊎_elim
        (λ (y : (p ≡ r) × (next ≡ z)). subst
        (λ (v : Session). IsBy v
        (accepted (cond (is_of (key_by op a q) (name_of v))
        (record { request = content q; reply = reply_by op a q } ∷ kept_of a (name_of v)) (kept_of a (name_of v))))) y.1
        last_one)
        (λ (y : (by_reference (sessions a) r ≡ Some z) × (same_session (name_of x) (name_of z) ≡ false)).
        subst (IsBy z)
        (sym (other a q (is_of (key_by op a q) (name_of z)) (reply_by op a q) (kept_of a (name_of z))
        (of_it (name_of z) ∙ y.1))) (h.some r z y.0))
        (place_of_one r z w);
  }
    where
      same_reference : (n : Name)
          → cond (opens_by op account && same_session (name q.consumer (id_of q.charging_id)) n)
          (Some (length (sessions a) + 1)) (reference_of a n) ≡ reference_of a n
      same_reference n =
          ap (λ b. cond (b && same_session (name q.consumer (id_of q.charging_id)) n) (Some (length (sessions a) + 1))
          (reference_of a n)) shut

      of_it : (n : Name) → is_of (key_by op a q) n ≡ same_session (name_of x) n
      of_it n = ap (λ o. is_of o n) own ∙ ap (λ m. same_session m n) named

      after_open : (l : List Request) → has_release l ≡ not x.is_open → has_release (q ∷ l) ≡ not live
      after_open l e = ap (λ b. cond b true (has_release l)) rel ∙ ap (cond (not live) true) (e ∙ ap not was) ∙ by live
        where
          by : (b : Bool) → cond (not b) true false ≡ not b
          by true = refl
          by false = refl

      last_one : IsBy next
          (accepted (cond (is_of (key_by op a q) (name_of x))
          (record { request = content q; reply = reply_by op a q } ∷ kept_of a (name_of x)) (kept_of a (name_of x))))
      last_one = subst (IsBy next)
          (sym (is_accepted a q (is_of (key_by op a q) (name_of x)) (reply_by op a q) (kept_of a (name_of x))
          (of_it (name_of x) ∙ same_itself (name_of x)) good)) (record {
            last = refl;
            goes_on = after_open (accepted (kept_of a (name_of x))) (h.some p x at).goes_on;
            any = λ w. let g : ◌≡◌ {A = List Request} (content q ∷ accepted (kept_of a (name_of x))) [] = w in absurd (cc);
          })

-- ---- a fresh request

-- under a key that has no place
pub is_new : (a : List Command) (q : Request) (o : Outcome) (k : Key) → key_of a q ≡ Some k
    → decision a (Charge q) ≡ Fresh o → at_new q.operation a q (named_by q.operation a q) ≡ Fresh o
is_new a q o k w d =
    sym (ap (at_key a q) w ∙ ap (at_place a q (named_by q.operation a q)) (fresh_place a q k o w d)) ∙ d

-- an Update or Release is fresh in an open session alone
pub goes_on : (a : List Command) (q : Request) (o : Outcome) (z : Option Session) → at_new_later a q z ≡ Fresh o
    → (x : Session) × (z ≡ Some x) × (x.is_open ≡ true)
goes_on a q o None e = absurd (cc)
goes_on a q o (Some x) e = by (nat_le q.number x.last) e
  where
    by_open : (b : Bool) → x.is_open ≡ b
        → cond b (Fresh (Charged (first_reply a q))) (Refused (SessionClosed x.last)) ≡ Fresh o
        → (y : Session) × (Some x ≡ Some y) × (y.is_open ≡ true)
    by_open true t w = (x, refl, t)
    by_open false t w = absurd (cc)

    by : (b : Bool)
        → cond b (Refused (SequencePassed x.last))
        (cond x.is_open (Fresh (Charged (first_reply a q))) (Refused (SessionClosed x.last))) ≡ Fresh o
        → (y : Session) × (Some x ≡ Some y) × (y.is_open ≡ true)
    by true w = absurd (cc)
    by false w = by_open x.is_open refl w

-- a Create is fresh where its name has no session
pub is_unnamed : (a : List Command) (q : Request) (o : Outcome) → AreBySession a
    → at_new_create a q (session_for a (reference_of a (name q.consumer (id_of q.charging_id)))) ≡ Fresh o
    → reference_of a (name q.consumer (id_of q.charging_id)) ≡ None
is_unnamed a q o h e = by (reference_of a (name q.consumer (id_of q.charging_id))) refl e
  where
    by : (w : Option ℕ) → reference_of a (name q.consumer (id_of q.charging_id)) ≡ w
        → at_new_create a q (session_for a w) ≡ Fresh o → w ≡ None
    by None f g = refl
    by (Some r) f g = let v =
        h.valid (name q.consumer (id_of q.charging_id)) r f in absurd (let k = ap (at_new_create a q) (sym v.1) ∙ g in cc)

later_step : (a : List Command) (q : Request) (o : Outcome) (op : Operation) (p : ℕ) (live : Bool) (k : Key)
    → AreBySession a → opens_by op (account_for a q.subscriber) ≡ false → key_by op a q ≡ key_in q (session_at a p)
    → key_by op a q ≡ Some k
    → is_success (reply_by op a q) ≡ true → is_release q.operation ≡ not live
    → at_new_later a q (session_at a p) ≡ Fresh o
    → Steps a q op (account_for a q.subscriber)
    (write_session (sessions a) p q.number live (by_reference (sessions a) p))
later_step a q o op p live k h shut same own good rel f =
    let g = goes_on a q o (session_at a p) f in
    subst (λ (l : List Session). Steps a q op (account_for a q.subscriber) l)
    (sym (ap (write_session (sessions a) p q.number live) g.1))
    (writes_one a q h p g.0 g.1 live op (account_for a q.subscriber) k shut own
    (of_key q g.0 k (ap (key_in q) (sym g.1) ∙ sym same ∙ own)) good rel g.2)

create_step : (a : List Command) (q : Request) (o : Outcome) (w : Option ℕ) → AreBySession a → q.operation ≡ Create
    → account_for a q.subscriber ≡ w
    → at_new_create a q (session_for a (reference_of a (name q.consumer (id_of q.charging_id)))) ≡ Fresh o
    → Steps a q Create w (opened q w (sessions a))
create_step a q o None h eo e f = no_account a q h e
create_step a q o (Some n) h eo e f =
    opens_one a q h n Create eo refl (is_unnamed a q o h f) (ap (λ v. is_success (created a q v)) e)

one_more : (a : List Command) (q : Request) (o : Outcome) → AreBySession a → decision a (Charge q) ≡ Fresh o
    → AreBySession (Charge q ∷ a)
one_more a q o h d = from (by q.operation refl (is_new a q o k.0 k.1 d))
  where
    k : (k : Key) × (key_of a q ≡ Some k)
    k = fresh_key a q o d

    by : (op : Operation) → q.operation ≡ op → at_new q.operation a q (named_by q.operation a q) ≡ Fresh o
        → Steps a q op (account_for a q.subscriber) (sessions_after op q (account_for a q.subscriber) (sessions a))
    by Create e n =
        create_step a q o (account_for a q.subscriber) h e refl (sym (ap (λ op. at_new op a q (named_by op a q)) e) ∙ n)
    by (Update p) e n =
        later_step a q o (Update p) p true k.0 h refl refl (sym (ap (λ op. key_by op a q) e) ∙ k.1) refl
        (ap is_release e) (sym (ap (λ op. at_new op a q (named_by op a q)) e) ∙ n)
    by (Release p) e n =
        later_step a q o (Release p) p false k.0 h refl refl (sym (ap (λ op. key_by op a q) e) ∙ k.1) refl
        (ap is_release e) (sym (ap (λ op. at_new op a q (named_by op a q)) e) ∙ n)

    from : Steps a q q.operation (account_for a q.subscriber)
        (sessions_after q.operation q (account_for a q.subscriber) (sessions a)) → AreBySession (Charge q ∷ a)
    from s = record { back = s.back; valid = s.valid; none = s.none; some = s.some }

none_there : (r : ℕ) (z : Session) → by_reference [] r ≡ Some z → ⊥
none_there r z e = elim (r == 0) as (λ b. cond b None None ≡ Some z → ⊥) [ true ↦ λ w. cc | false ↦ λ w. cc ] e

pub by_session : (a : List Command) → AreFresh a → AreBySession a
by_session [] f =
    record {
      back = λ r z e. absurd (none_there r z e);
      valid = λ n r e. absurd (cc);
      none = λ n e. refl;
      some =
          λ r z e. absurd (none_there r z e);
    }
by_session (Charge q ∷ a) f = one_more a q f.0.0 (by_session a f.1) f.0.1
by_session (c ∷ a) f = let h =
    by_session a f.1 in record { back = h.back; valid = h.valid; none = h.none; some = h.some }

-- each list that came one after the other
pub are_fresh : (a : List Command) → IsHistory a → AreFresh a
are_fresh [] h = tt
are_fresh (c ∷ a) h = ((h.0.0, sym (decision_is a c) ∙ h.0.1), are_fresh a h.1.1)

pub sessions_by_kept : (a : List Command) (r : ℕ) (z : Session) → IsHistory a
    → state.session_at (state_of a) r ≡ Some z → IsByKept a r z
sessions_by_kept a r z h e =
    let b = by_session a (are_fresh a h) in
    let here : session_at a r ≡ Some z = ap (λ (l : List Session). by_reference l r) (sym (sessions_are a)) ∙ e in
    record { named = references_are a (name_of z) ∙ b.back r z here; by = b.some r z here }
