-- A request is decided by what its session keeps alone.
use Rattle.std.proofs.Common.{◌≡◌, ◌==◌, ◌&&◌, ℕ, Bool, true, false, cond, not, nat_le, List, [], ◌∷◌, length, Option, Some, None, refl, sym, ap, ◌∙◌, subst, arith, ⊎_elim}
use Rattle.std.specs.Option.{option_or}
use Rattle.units.specs.declared.request.Operation.{Operation}
use Rattle.units.specs.declared.request.Operation.TheVariants.{Create, Update, Release}
use Rattle.units.specs.declared.request.Request.{Request}
use Rattle.units.specs.declared.reply.Reply.{Reply}
use Rattle.sessions.specs.Content.{content, same_content}
use Rattle.sessions.specs.Kept.{Kept as KeptRequest, accepted, newest_number, has_release}
use Rattle.sessions.specs.Decided.{Repeats, Passed, Over, IsNew, kept_under, decided_create, decided_later, decided_new, decided_under, decided}
use Rattle.chf_core.specs.declared.command.Command.{Command}
use Rattle.chf_core.specs.declared.command.Command.TheVariants.{Charge}
use Rattle.chf_core.specs.declared.command.Outcome.{Outcome}
use Rattle.chf_core.specs.declared.command.Outcome.TheVariants.{Charged}
use Rattle.chf_core.specs.declared.session.Session.{Session}
use Rattle.chf_core.specs.declared.key.Name.{Name}
use Rattle.chf_core.specs.declared.key.Key.{Key}
use Rattle.chf_core.specs.declared.decision.Verdict.{Verdict}
use Rattle.chf_core.specs.declared.decision.Verdict.TheVariants.{Refused, Fresh}
use Rattle.chf_core.specs.declared.refusal.ChfRefusal.TheVariants.{SessionClosed, SequencePassed, UnknownReference}
use Rattle.chf_core.specs.Sessions.{id_of, name, same_session, session_at, session_for, named_by, reference_of}
use Rattle.chf_core.specs.Keys.{key_in, key_by, key_of, is_key, place_of, command_at, is_repeat}
use Rattle.chf_core.specs.Money.{first_reply}
use Rattle.chf_core.specs.Outcomes.{outcome_of, outcome_at}
use Rattle.chf_core.specs.Decisions.{decision, at_key, at_place, at_new, at_new_create, at_new_later, at_kept, last_of, fresh_charge}
use Rattle.chf_core.specs.KeptRequests.{kept_of, AreFresh}
use Rattle.chf_core.specs.State.{name_of}
use Rattle.chf_core.specs.After.{IsHistory}
use Rattle.chf_core.specs.Standing.{IsBy}
use Rattle.chf_core.specs.OfSessions.{HasKey, IsDecided, with_first}
use Rattle.chf_core.proofs.Places.{eq_yes, eq_no}
use Rattle.chf_core.proofs.Named.{place_within, same_key}
use Rattle.chf_core.proofs.Keyed.{fresh_place}
use Rattle.chf_core.proofs.JoinedRequests.{or_none}
use Rattle.chf_core.proofs.SessionLists.{of_key}
use Rattle.chf_core.proofs.Entered.{fresh_key}
use Rattle.chf_core.proofs.OwnKeys.{own, creates, kept_here, kept_elsewhere}
use Rattle.chf_core.proofs.ByKept.{AreBySession, by_session, are_fresh}

-- ---- the kept request at the place of a key

abbrev pub of_session : Name → ℕ → Key
of_session n number = record { session = n; number = number }

-- what is kept of a request
abbrev pub kept_as : Request → Reply → KeptRequest
kept_as asked reply = record { request = content asked; reply = reply }

-- the request at a place and its first reply, which are kept under its number
pub record IsAt (a : List Command) (n : Name) (number place : ℕ) : Type 0 where
  pub asked : Request
  pub reply : Reply
  pub under : kept_under (kept_of a n) number ≡ Some (kept_as asked reply)
  pub command : command_at a place ≡ Some (Charge asked)
  pub outcome : outcome_at a place ≡ Some (Charged reply)

-- a number of a session has a place and a kept request, or neither
pub data FoundAt (a : List Command) (n : Name) (number : ℕ) : Type 0 where
  At : (place : ℕ) → place_of a (of_session n number) ≡ Some place → IsAt a n number place → FoundAt a n number
  Nowhere : place_of a (of_session n number) ≡ None → kept_under (kept_of a n) number ≡ None → FoundAt a n number

-- one more command that is not it
at_later : (c : Command) (a : List Command) (n : Name) (number : ℕ)
    → place_of (c ∷ a) (of_session n number) ≡ place_of a (of_session n number)
    → kept_under (kept_of (c ∷ a) n) number ≡ kept_under (kept_of a n) number
    → FoundAt a n number → FoundAt (c ∷ a) n number
at_later c a n number p k (Nowhere e f) = Nowhere (p ∙ e) (k ∙ f)
at_later c a n number p k (At place e f) =
    let l = place_within a (of_session n number) place e in
    let no : (length a == place) ≡ false =
    eq_no (length a) place (λ z. let h : length a ≡ place = z in omega arith) in
    At place (p ∙ e) (record {
      asked = f.asked;
      reply = f.reply;
      under = k ∙ f.under;
      command = ap (λ b. cond b (Some c) (command_at a place)) no ∙ f.command;
      outcome = ap (λ b. cond b (Some (outcome_of a c)) (outcome_at a place)) no ∙ f.outcome;
    })

-- one more request, which is of its own session and the first of its key
module _ (a : List Command) (q : Request) (o : Outcome) (m : Name) (mine : HasKey a q m)
    (fresh : decision a (Charge q) ≡ Fresh o) (n : Name) (number : ℕ) where
  -- the place of a key by the tests of the session and of the number
  place_next : (b d : Bool) → same_session m n ≡ b → (q.number == number) ≡ d
      → place_of (Charge q ∷ a) (of_session n number)
      ≡ option_or (place_of a (of_session n number)) (cond (b && d) (Some (length a)) None)
  place_next b d s e =
      (λ i. option_or (place_of a (of_session n number))
      (cond (is_key (mine i) (of_session n number)) (Some (length a)) None))
      ∙ (λ i. option_or (place_of a (of_session n number)) (cond (s i && e i) (Some (length a)) None))

  not_there : same_session m n ≡ true → (q.number == number) ≡ true → place_of a (of_session n number) ≡ None
  not_there s e =
      ap (place_of a) (sym (same_key (of_session m q.number) (of_session n number) (λ i. s i && e i)))
      ∙ fresh_place a q (of_session m q.number) o mine fresh

  under_next : same_session m n ≡ true
      → kept_under (kept_of (Charge q ∷ a) n) number
      ≡ cond (q.number == number) (Some (with_first a q)) (kept_under (kept_of a n) number)
  under_next s = ap (λ l. kept_under l number) (kept_here a q m n mine s)

  found_more : (b d : Bool) → same_session m n ≡ b → (q.number == number) ≡ d
      → FoundAt a n number → FoundAt (Charge q ∷ a) n number
  found_more false d s e f =
      at_later (Charge q) a n number
      (place_next false d s e ∙ sym (or_none (place_of a (of_session n number))))
      (ap (λ l. kept_under l number) (kept_elsewhere a q m n mine s)) f
  found_more true false s e f =
      at_later (Charge q) a n number
      (place_next true false s e ∙ sym (or_none (place_of a (of_session n number))))
      (under_next s ∙ ap (λ b. cond b (Some (with_first a q)) (kept_under (kept_of a n) number)) e) f
  found_more true true s e f =
      At (length a)
      (place_next true true s e ∙ ap (λ p. option_or p (Some (length a))) (not_there s e))
      (record {
        asked = q;
        reply = first_reply a q;
        under = under_next s ∙ ap (λ b. cond b (Some (with_first a q)) (kept_under (kept_of a n) number)) e;
        command = ap (λ b. cond b (Some (Charge q)) (command_at a (length a))) (eq_yes (length a) (length a) refl);
        outcome =
            ap (λ b. cond b (Some (Charged (first_reply a q))) (outcome_at a (length a)))
            (eq_yes (length a) (length a) refl);
      })

found_charge : (a : List Command) (q : Request) (o : Outcome) (n : Name) (number : ℕ)
    → decision a (Charge q) ≡ Fresh o → FoundAt a n number → FoundAt (Charge q ∷ a) n number
found_charge a q o n number d f = ⊎_elim
    (λ (e : key_of a q ≡ None). absurd (let k = fresh_key a q o d in let z : Some k.0 ≡ None = sym k.1 ∙ e in cc))
    (λ (w : (m : Name) × HasKey a q m × (m.consumer ≡ q.consumer)).
    found_more a q o w.0 w.1 d n number (same_session w.0 n) (q.number == number) refl refl f)
    (own a q)

pub found_at : (a : List Command) → AreFresh a → (n : Name) (number : ℕ) → FoundAt a n number
found_at [] f n number = Nowhere refl refl
found_at (Charge q ∷ a) f n number = found_charge a q f.0.0 n number f.0.1 (found_at a f.1 n number)
found_at (c ∷ a) f n number = at_later c a n number refl refl (found_at a f.1 n number)

-- ---- what a session says of a request

create_says : (a : List Command) (q : Request) (z : Session) (rs : List Request) → IsBy z rs
    → IsDecided a q (decided_create rs) (at_new_create a q (Some z))
create_says a q z [] b = absurd (b.any refl)
create_says a q z (r ∷ rs) b = refl

later_says : (a : List Command) (q : Request) (z : Session) (rs : List Request) → IsBy z rs
    → IsDecided a q (decided_later rs q.number) (at_new_later a q (Some z))
later_says a q z rs b =
    subst (λ m. IsDecided a q (cond (nat_le q.number m) (Passed m) (cond (has_release rs) (Over m) IsNew)) verdict)
    (sym b.last)
    (subst (λ r. IsDecided a q (cond (nat_le q.number z.last) (Passed z.last) (cond r (Over z.last) IsNew)) verdict)
    (sym b.goes_on) (at (nat_le q.number z.last) z.is_open))
  where
    verdict : Verdict
    verdict = at_new_later a q (Some z)

    at : (b o : Bool)
        → IsDecided a q (cond b (Passed z.last) (cond (not o) (Over z.last) IsNew))
        (cond b (Refused (SequencePassed z.last)) (cond o (fresh_charge a q) (Refused (SessionClosed z.last))))
    at true o = refl
    at false true = refl
    at false false = refl

-- the session that a request names: none for a Create that opens one, or one that is by its accepted requests
pub data Names (a : List Command) (q : Request) (rs : List Request) (op : Operation) : Type 0 where
  NoSession : op ≡ Create → named_by op a q ≡ None → rs ≡ [] → Names a q rs op
  OneSession : (z : Session) → named_by op a q ≡ Some z → IsBy z rs → Names a q rs op

pub record Says (a : List Command) (q : Request) (rs : List Request) (op : Operation) : Type 0 where
  pub last : last_of (named_by op a q) ≡ newest_number rs
  pub next : IsDecided a q (decided_new op rs q.number) (at_new op a q (named_by op a q))

new_says : (a : List Command) (q : Request) (z : Session) (rs : List Request) (op : Operation) → IsBy z rs
    → IsDecided a q (decided_new op rs q.number) (at_new op a q (Some z))
new_says a q z rs Create b = create_says a q z rs b
new_says a q z rs (Update r) b = later_says a q z rs b
new_says a q z rs (Release r) b = later_says a q z rs b

says : (a : List Command) (q : Request) (rs : List Request) (op : Operation) → Names a q rs op → Says a q rs op
says a q rs op (OneSession z e b) = record {
  last = ap last_of e ∙ sym b.last;
  next = subst (λ o. IsDecided a q (decided_new op rs q.number) (at_new op a q o)) (sym e) (new_says a q z rs op b);
}
says a q rs op (NoSession c e n) = record {
  last = ap last_of e ∙ sym (ap newest_number n);
  next =
      subst (λ o. IsDecided a q (decided_new op rs q.number) (at_new op a q o)) (sym e)
      (subst (λ l. IsDecided a q (decided_new op l q.number) (at_new op a q None)) (sym n)
      (subst (λ p. IsDecided a q (decided_new p [] q.number) (at_new p a q None)) (sym c) refl));
}

module _ (a : List Command) (q : Request) (n : Name) (h : AreBySession a) (k : HasKey a q n) where
  -- a session of the name is by what is kept
  by_requests : (r : ℕ) (z : Session) → session_at a r ≡ Some z → name_of z ≡ n → IsBy z (accepted (kept_of a n))
  by_requests r z e s = subst (λ m. IsBy z (accepted (kept_of a m))) s (h.some r z e)

  of_create : (o : Option ℕ) → reference_of a n ≡ o → q.operation ≡ Create → Names a q (accepted (kept_of a n)) Create
  of_create o e c = by o (ap (session_for a) (ap (reference_of a) itself ∙ e)) e
    where
      itself : name q.consumer (id_of q.charging_id) ≡ n
      itself =
          let z : of_session (name q.consumer (id_of q.charging_id)) q.number ≡ of_session n q.number =
          (let y : Some (of_session (name q.consumer (id_of q.charging_id)) q.number) ≡ Some (of_session n q.number) =
          sym (creates a q c) ∙ k in cc) in ap (λ (x : Key). x.session) z

      by : (o : Option ℕ) → named_by Create a q ≡ session_for a o → reference_of a n ≡ o
          → Names a q (accepted (kept_of a n)) Create
      by None w f = NoSession refl w (h.none n f)
      by (Some r) w f = let v = h.valid n r f in OneSession v.0 (w ∙ v.1) (by_requests r v.0 v.1 v.2)

  of_later : (r : ℕ) (op : Operation) → named_by op a q ≡ session_at a r
      → key_in q (session_at a r) ≡ Some (of_session n q.number) → Names a q (accepted (kept_of a n)) op
  of_later r op w e = by (session_at a r) refl e
    where
      by : (o : Option Session) → session_at a r ≡ o → key_in q o ≡ Some (of_session n q.number)
          → Names a q (accepted (kept_of a n)) op
      by None f g = absurd (cc)
      by (Some z) f g = OneSession z (w ∙ f) (by_requests r z f (sym (of_key q z (of_session n q.number) g)))

  names : (op : Operation) → q.operation ≡ op → Names a q (accepted (kept_of a n)) op
  names Create e = of_create (reference_of a n) refl e
  names (Update r) e = of_later r (Update r) refl (sym (ap (λ p. key_by p a q) e) ∙ k)
  names (Release r) e = of_later r (Release r) refl (sym (ap (λ p. key_by p a q) e) ∙ k)

  it_says : Says a q (accepted (kept_of a n)) q.operation
  it_says = says a q (accepted (kept_of a n)) q.operation (names q.operation refl)

  -- where its number is kept, and where it is not
  by_place : FoundAt a n q.number
      → IsDecided a q (decided (kept_of a n) q) (at_place a q (named_by q.operation a q) (place_of a (of_session n q.number)))
  by_place (Nowhere e f) =
      subst (λ o. IsDecided a q (decided_under (kept_of a n) q o) (at_place a q (named_by q.operation a q) (place_of a (of_session n q.number))))
      (sym f)
      (subst (λ p. IsDecided a q (decided_under (kept_of a n) q None) (at_place a q (named_by q.operation a q) p)) (sym e)
      it_says.next)
  by_place (At place e f) =
      subst (λ o. IsDecided a q (decided_under (kept_of a n) q o) (at_place a q (named_by q.operation a q) (place_of a (of_session n q.number))))
      (sym f.under)
      (subst (λ p. IsDecided a q (decided_under (kept_of a n) q (Some (kept_as f.asked f.reply))) (at_place a q (named_by q.operation a q) p)) (sym e)
      (subst (λ c. IsDecided a q (decided_under (kept_of a n) q (Some (kept_as f.asked f.reply))) (at_kept place (last_of (named_by q.operation a q)) (is_repeat q c)))
      (sym f.command) (at (same_content f.asked q))))
    where
      at : (b : Bool)
          → IsDecided a q (cond b (Repeats f.reply) (Passed (newest_number (accepted (kept_of a n)))))
          (at_kept place (last_of (named_by q.operation a q)) b)
      at true = (place, refl, f.outcome)
      at false = ap (λ m. Refused (SequencePassed m)) it_says.last

pub by_kept : (a : List Command) (q : Request) (n : Name) → IsHistory a → HasKey a q n
    → IsDecided a q (decided (kept_of a n) q) (decision a (Charge q))
by_kept a q n h k =
    subst (IsDecided a q (decided (kept_of a n) q)) (sym (ap (at_key a q) k))
    (by_place a q n (by_session a (are_fresh a h)) k (found_at a (are_fresh a h) n q.number))

pub no_session : (a : List Command) (q : Request) → key_of a q ≡ None
    → decision a (Charge q) ≡ Refused UnknownReference
no_session a q e = ap (at_key a q) e
