-- In a list of which each command was fresh, no two kept requests of a session have one number.
use Rattle.std.proofs.Common.{◌≡◌, ◌==◌, ◌&&◌, ℕ, Bool, true, false, cond, List, [], ◌∷◌, length, Option, Some, None, refl, sym, ap, ◌∙◌, subst}
use Rattle.std.specs.Option.{option_or}
use Rattle.units.specs.declared.request.Operation.{Operation}
use Rattle.units.specs.declared.request.Operation.TheVariants.{Create, Update, Release}
use Rattle.units.specs.declared.request.Request.{Request}
use Rattle.sessions.specs.Content.{content}
use Rattle.sessions.specs.Kept.{AreKeyed, first_reply as reply_under}
use Rattle.chf_core.specs.declared.session.Session.{Session}
use Rattle.chf_core.specs.declared.key.Name.{Name}
use Rattle.chf_core.specs.declared.key.Key.{Key}
use Rattle.chf_core.specs.declared.command.Command.{Command}
use Rattle.chf_core.specs.declared.command.Command.TheVariants.{Setup, Charge, Subscriber, TopUp, Expire, CloseRecords}
use Rattle.chf_core.specs.declared.command.Outcome.{Outcome}
use Rattle.chf_core.specs.declared.decision.Verdict.TheVariants.{Fresh}
use Rattle.chf_core.specs.Operator.{name_eq}
use Rattle.chf_core.specs.Sessions.{same_session, session_at, id_of}
use Rattle.chf_core.specs.Keys.{key, key_of, key_by, key_in, key_eq, is_key, place_of}
use Rattle.chf_core.specs.Money.{first_reply}
use Rattle.chf_core.specs.Decisions.{decision, at_key}
use Rattle.chf_core.specs.KeptRequests.{is_of, kept_of, AreFresh}
use Rattle.chf_core.proofs.Named.{kept_no, same_key, same_name, same_number, both}

-- the number of a request's key is its own
in_number : (q : Request) (s : Option Session) (k : Key) → key_in q s ≡ Some k → k.number ≡ q.number
in_number q None k e = absurd (cc)
in_number q (Some s) k e = by_test (name_eq s.consumer q.consumer) e
  where
    by_test : (b : Bool) → cond b (Some (key q.consumer s.charging_id q.number)) None ≡ Some k → k.number ≡ q.number
    by_test true w = let h : key q.consumer s.charging_id q.number ≡ k = cc in sym (ap (λ (j : Key). j.number) h)
    by_test false w = absurd (cc)

pub own_number : (a : List Command) (q : Request) (k : Key) → key_of a q ≡ Some k → k.number ≡ q.number
own_number a q k = by_op q.operation
  where
    by_op : (o : Operation) → key_by o a q ≡ Some k → k.number ≡ q.number
    by_op Create e = let h : key q.consumer (id_of q.charging_id) q.number ≡ k = cc in sym (ap (λ (j : Key). j.number) h)
    by_op (Update r) e = in_number q (session_at a r) k e
    by_op (Release r) e = in_number q (session_at a r) k e

no_place : (o : Option ℕ) (b : Bool) (n : ℕ) → option_or o (cond b (Some n) None) ≡ None → (b ≡ false) × (o ≡ None)
no_place (Some i) b n e = absurd (cc)
no_place None true n e = absurd (cc)
no_place None false n e = (refl, refl)

-- where a key has no place, no kept request of its session has its number
pub none_under : (a : List Command) (k : Key) → place_of a k ≡ None → reply_under (kept_of a k.session) k.number ≡ None
none_under [] k e = refl
none_under (Setup p ∷ a) k e = none_under a k e
none_under (Charge q ∷ a) k e = by_key (key_of a q) refl (no_place (place_of a k) (is_key (key_of a q) k) (length a) e).0 (none_under a k (no_place (place_of a k) (is_key (key_of a q) k) (length a) e).1)
  where
    by_session : (j : Key) (b : Bool) → key_of a q ≡ Some j → same_session j.session k.session ≡ b → key_eq j k ≡ false → reply_under (kept_of a k.session) k.number ≡ None
        → reply_under (cond b (record { request = content q; reply = first_reply a q } ∷ kept_of a k.session) (kept_of a k.session)) k.number ≡ None
    by_session j true w s n i =
        let x : (j.number == k.number) ≡ false = sym (ap (λ b. b && j.number == k.number) s) ∙ n in
        let y : (q.number == k.number) ≡ false = ap (λ m. m == k.number) (sym (own_number a q j w)) ∙ x in
        λ p. option_or (i p) (cond (y p) (Some (first_reply a q)) None)
    by_session j false w s n i = i

    by_key : (w : Option Key) → key_of a q ≡ w → is_key (key_of a q) k ≡ false → reply_under (kept_of a k.session) k.number ≡ None → reply_under (cond (is_of w k.session) (record { request = content q; reply = first_reply a q } ∷ kept_of a k.session) (kept_of a k.session)) k.number ≡ None
    by_key None w h i = i
    by_key (Some j) w h i = by_session j (same_session j.session k.session) w refl (ap (λ o. is_key o k) (sym w) ∙ h) i
none_under (Subscriber u n b ∷ a) k e = none_under a k e
none_under (TopUp i n x ∷ a) k e = none_under a k e
none_under (Expire m ∷ a) k e = none_under a k e
none_under (c ∷ a) k e = none_under a k e

-- a fresh request's key has no place
pub fresh_place : (a : List Command) (q : Request) (k : Key) (o : Outcome) → key_of a q ≡ Some k → decision a (Charge q) ≡ Fresh o → place_of a k ≡ None
fresh_place a q k o w e = by_place (place_of a k) refl
  where
    by_place : (p : Option ℕ) → place_of a k ≡ p → place_of a k ≡ None
    by_place None h = h
    by_place (Some i) h = absurd (kept_no a q k i o h (ap (at_key a q) (sym w) ∙ e))

-- so it is the first of its key
pub entered_first : (a : List Command) (q : Request) (o : Outcome) → decision a (Charge q) ≡ Fresh o → (k : Key) → cond (is_key (key_of a q) k) (Some (length a)) (place_of a k) ≡ place_of (Charge q ∷ a) k
entered_first a q o d k = by_key (key_of a q) refl
  where
    or_none : (p : Option ℕ) → p ≡ option_or p None
    or_none None = refl
    or_none (Some i) = refl

    by_key : (w : Option Key) → key_of a q ≡ w → cond (is_key w k) (Some (length a)) (place_of a k) ≡ option_or (place_of a k) (cond (is_key w k) (Some (length a)) None)
    by_key None w = or_none (place_of a k)
    by_key (Some j) w = elim (key_eq j k) as (λ b. key_eq j k ≡ b → cond b (Some (length a)) (place_of a k) ≡ option_or (place_of a k) (cond b (Some (length a)) None)) [
      | true ↦ λ t. let none : place_of a k ≡ None = ap (place_of a) (sym (same_key j k t)) ∙ fresh_place a q j o w d in sym (ap (λ p. option_or p (Some (length a))) none)
      | false ↦ λ t. or_none (place_of a k)
    ] refl

pub session_same : (j : Key) (n : Name) → same_session j.session n ≡ true → j.session ≡ n
session_same j n e =
    let y = both (name_eq j.session.consumer n.consumer) (j.session.charging_id == n.charging_id) e in
    λ i. record { consumer = same_name j.session.consumer n.consumer y.0 i; charging_id = same_number j.session.charging_id n.charging_id y.1 i }

pub kept_keyed : (a : List Command) (n : Name) → AreFresh a → AreKeyed (kept_of a n)
kept_keyed [] n h = tt
kept_keyed (Setup p ∷ a) n h = kept_keyed a n h.1
kept_keyed (Charge q ∷ a) n h = by_key (key_of a q) refl (kept_keyed a n h.1)
  where
    by_session : (j : Key) (b : Bool) → key_of a q ≡ Some j → same_session j.session n ≡ b → AreKeyed (kept_of a n) → AreKeyed (cond b (record { request = content q; reply = first_reply a q } ∷ kept_of a n) (kept_of a n))
    by_session j true w s i =
        let z = none_under a j (fresh_place a q j h.0.0 w h.0.1) in
        (subst (λ (m : Name). reply_under (kept_of a m) q.number ≡ None) (session_same j n s) (subst (λ (x : ℕ). reply_under (kept_of a j.session) x ≡ None) (own_number a q j w) z), i)
    by_session j false w s i = i

    by_key : (w : Option Key) → key_of a q ≡ w → AreKeyed (kept_of a n) → AreKeyed (cond (is_of w n) (record { request = content q; reply = first_reply a q } ∷ kept_of a n) (kept_of a n))
    by_key None w i = i
    by_key (Some j) w i = by_session j (same_session j.session n) w refl i
kept_keyed (Subscriber u m b ∷ a) n h = kept_keyed a n h.1
kept_keyed (TopUp i m x ∷ a) n h = kept_keyed a n h.1
kept_keyed (Expire m ∷ a) n h = kept_keyed a n h.1
kept_keyed (c ∷ a) n h = kept_keyed a n h.1
