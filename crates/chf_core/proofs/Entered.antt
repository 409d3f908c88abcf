-- A request that was fresh is kept once it is entered, and stands with its first reply; each request has a reply.
use Rattle.std.proofs.Common.{◌≡◌, ◌==◌, ◌&&◌, ℕ, Bool, true, false, cond, List, [], ◌∷◌, ◌++◌, length, Option, Some, None, is_some, refl, sym, ap, ◌∙◌}
use Rattle.std.specs.Option.{option_or, option_and_then}
use Rattle.units.specs.declared.request.Operation.{Operation}
use Rattle.units.specs.declared.request.Operation.TheVariants.{Create, Update, Release}
use Rattle.units.specs.declared.request.Request.{Request}
use Rattle.sessions.specs.Content.{content, ContentsAreTold}
use Rattle.chf_core.specs.declared.command.Command.{Command}
use Rattle.chf_core.specs.declared.command.Command.TheVariants.{Charge}
use Rattle.chf_core.specs.declared.command.Outcome.{Outcome}
use Rattle.chf_core.specs.declared.command.Outcome.TheVariants.{Charged}
use Rattle.chf_core.specs.declared.decision.Verdict.{Verdict}
use Rattle.chf_core.specs.declared.decision.Verdict.TheVariants.{Kept, Known, Refused, Fresh}
use Rattle.chf_core.specs.declared.refusal.ChfRefusal.{ChfRefusal}
use Rattle.chf_core.specs.declared.refusal.ChfRefusal.TheVariants.{UnknownAccount, SessionExists, SessionClosed, SequencePassed, UnknownReference, TopUpDiffers, WrongSupi, UnknownCounter, UnknownSubscription, UserUnknown}
use Rattle.chf_core.specs.declared.session.Session.{Session}
use Rattle.chf_core.specs.declared.key.Key.{Key}
use Rattle.chf_core.specs.declared.kept_request.KeptRequest.{KeptRequest}
use Rattle.chf_core.specs.Keys as keys
use Rattle.chf_core.specs.Keys.{key_in, key_eq, is_key}
use Rattle.chf_core.specs.Sessions.{session_at}
use Rattle.chf_core.specs.Money as money
use Rattle.chf_core.specs.Decisions as decisions
use Rattle.chf_core.specs.Verdicts.{IsOfRequest, RefusesRequest}
use Rattle.chf_core.specs.Deciding.{decision, is_repeat}
use Rattle.chf_core.specs.After.{after, state_of, is_setup, IsHistory}
use Rattle.chf_core.specs.Joined.{request_of, request_at}
use Rattle.chf_core.specs.Standing.{reply_of, refusal_reply, verdict_reply, reply_to, IsRepeated}
use Rattle.chf_core.proofs.Places.{eq_yes}
use Rattle.chf_core.proofs.NameLists.{itself}
use Rattle.chf_core.proofs.Named.{key_stays, found_again, found_from, kept_longer}
use Rattle.chf_core.proofs.Keyed.{fresh_place}
use Rattle.chf_core.proofs.Suits.{request_suits}
use Rattle.chf_core.proofs.JoinedParts.{count_is}
use Rattle.chf_core.proofs.JoinedMoney.{reply_is}
use Rattle.chf_core.proofs.JoinedRequests.{none_yet, requests_are, repeats, decision_is}

-- ---- entered

same_itself : (k : Key) → key_eq k k ≡ true
same_itself k =
    let id = k.session.charging_id in
    λ i. (itself k.session.consumer i && eq_yes id id refl i) && eq_yes k.number k.number refl i

-- the mark says nothing of the key
in_content : (q : Request) (o : Option Session) → key_in (content q) o ≡ key_in q o
in_content q None = refl
in_content q (Some z) = refl

of_content : (o : Operation) (a : List Command) (q : Request) → keys.key_by o a (content q) ≡ keys.key_by o a q
of_content Create a q = refl
of_content (Update r) a q = in_content q (session_at a r)
of_content (Release r) a q = in_content q (session_at a r)

same_key : (a : List Command) (q r : Request) → content r ≡ content q → keys.key_of a r ≡ keys.key_of a q
same_key a q r e =
    sym (of_content r.operation a r) ∙ ap (λ (x : Request). keys.key_of a x) e ∙ of_content q.operation a q

has_key : (a : List Command) (q : Request) (o : Outcome) (w : Option Key) → decisions.at_key a q w ≡ Fresh o
    → (k : Key) × (w ≡ Some k)
has_key a q o None e = absurd (cc)
has_key a q o (Some k) e = (k, refl)

pub fresh_key : (a : List Command) (q : Request) (o : Outcome) → decisions.decision a (Charge q) ≡ Fresh o
    → (k : Key) × (keys.key_of a q ≡ Some k)
fresh_key a q o d = has_key a q o (keys.key_of a q) d

kept_now : ContentsAreTold → (a : List Command) (q r : Request) (o : Outcome)
    → decisions.decision a (Charge q) ≡ Fresh o → content r ≡ content q
    → decisions.decision (Charge q ∷ a) (Charge r) ≡ Kept (length a)
kept_now told a q r o d e =
    let k = fresh_key a q o d in
    found_again (Charge q ∷ a) r (length a) (record {
      k = k.0;
      has = key_stays (Charge q) a r k.0 (same_key a q r e ∙ k.1);
      stands =
          (λ i. option_or (fresh_place a q k.0 o k.1 d i) (cond (is_key (k.1 i) k.0) (Some (length a)) None))
          ∙ ap (λ b. cond b (Some (length a)) None) (same_itself k.0);
      same =
          ap (λ b. keys.is_repeat r (cond b (Some (Charge q)) (keys.command_at a (length a))))
          (eq_yes (length a) (length a) refl)
          ∙ (told q r).1 (sym e);
    })

pub entered_is_kept : ContentsAreTold → (a : List Command) (q r : Request) (o : Outcome)
    → decision (state_of a) (Charge q) ≡ Fresh o → content r ≡ content q
    → decision (after (state_of a) (Charge q)) (Charge r) ≡ Kept (state_of a).count
entered_is_kept told a q r o d e =
    decision_is (Charge q ∷ a) (Charge r) ∙ kept_now told a q r o (sym (decision_is a (Charge q)) ∙ d) e
    ∙ ap Kept (sym (count_is a))

pub histories_grow : (a : List Command) (c : Command) (o : Outcome) → IsHistory a → decision (state_of a) c ≡ Fresh o
    → is_setup c ≡ ((state_of a).count == 0) → IsHistory (c ∷ a)
histories_grow a c o h d s = ((o, d), (s ∙ ap (λ n. n == 0) (count_is a), h))

-- ---- for good

kept_on : ContentsAreTold → (later a : List Command) (q r : Request)
    → IsHistory (later ++ Charge q ∷ a) → content r ≡ content q
    → decisions.decision (later ++ Charge q ∷ a) (Charge r) ≡ Kept (length a)
kept_on told [] a q r h e = kept_now told a q r h.0.0 (sym (decision_is a (Charge q)) ∙ h.0.1) e
kept_on told (c ∷ later) a q r h e =
    kept_longer (later ++ Charge q ∷ a) c r (length a) (kept_on told later a q r h.1.1 e)

-- what is kept at a place stays
entry_on : (later a : List Command) (p : ℕ) (r : KeptRequest) → request_at a p ≡ Some r
    → request_at (later ++ a) p ≡ Some r
entry_on [] a p r e = e
entry_on (Charge x ∷ later) a p r e =
    let all = later ++ a in
    ap (λ o. option_or o (cond (length all == p) (request_of all x (keys.key_of all x)) None)) (entry_on later a p r e)
entry_on (c ∷ later) a p r e = entry_on later a p r e

-- and has the first reply
entry_here : (a : List Command) (q : Request) (k : Key) → keys.key_of a q ≡ Some k
    → (r : KeptRequest) × (request_at (Charge q ∷ a) (length a) ≡ Some r)
    × (r.outcome ≡ Charged (money.first_reply a q))
entry_here a q k w = (
  record {
    place = length a;
    charging_id = k.session.charging_id;
    request = content q;
    outcome = Charged (money.first_reply a q);
  },
  (λ i. option_or (none_yet a i) (cond (eq_yes (length a) (length a) refl i) (request_of a q (w i)) None)),
  refl,
)

own_history : (later a : List Command) (q : Request) → IsHistory (later ++ Charge q ∷ a) → IsHistory (Charge q ∷ a)
own_history [] a q h = h
own_history (c ∷ later) a q h = own_history later a q h.1.1

pub repeats_stand : ContentsAreTold → (later a : List Command) (q r : Request) → IsHistory (later ++ Charge q ∷ a)
    → content r ≡ content q → IsRepeated later a q r
repeats_stand told later a q r h e =
    let all = later ++ Charge q ∷ a in
    let own = own_history later a q h in
    let k = fresh_key a q own.0.0 (sym (decision_is a (Charge q)) ∙ own.0.1) in
    let x = entry_here a q k.0 k.1 in
    let kept = decision_is all (Charge r) ∙ kept_on told later a q r h e in
    record {
      kept = kept;
      reply =
          ap (verdict_reply (state_of all)) kept
          ∙ ap (option_and_then (λ (y : KeptRequest). reply_of y.outcome))
          (requests_are all (length a) ∙ entry_on later (Charge q ∷ a) (length a) x.0 x.1)
          ∙ ap reply_of x.2 ∙ ap Some (sym (reply_is a q));
    }

-- ---- each request has a reply

-- each kept request came to a reply
all_charged : (a : List Command) (p : ℕ)
    → is_some (option_and_then (λ (r : KeptRequest). reply_of r.outcome) (request_at a p)) ≡ is_some (request_at a p)
all_charged [] p = refl
all_charged (Charge q ∷ a) p = by (request_at a p) (length a == p) (keys.key_of a q) (all_charged a p)
  where
    by : (o : Option KeptRequest) (b : Bool) (w : Option Key)
        → is_some (option_and_then (λ (r : KeptRequest). reply_of r.outcome) o) ≡ is_some o
        → is_some (option_and_then (λ (r : KeptRequest). reply_of r.outcome)
        (option_or o (cond b (request_of a q w) None)))
        ≡ is_some (option_or o (cond b (request_of a q w) None))
    by (Some r) b w h = h
    by None true (Some k) h = refl
    by None true None h = refl
    by None false w h = refl
all_charged (c ∷ a) p = all_charged a p

there : (q : Request) (o : Option KeptRequest) → is_repeat q o ≡ true → is_some o ≡ true
there q None e = absurd (cc)
there q (Some r) e = refl

refused : (f : ChfRefusal) → RefusesRequest f → is_some (refusal_reply f) ≡ true
refused UnknownAccount h = absurd h
refused SessionExists h = refl
refused (SessionClosed last) h = refl
refused (SequencePassed last) h = refl
refused UnknownReference h = refl
refused TopUpDiffers h = absurd h
refused WrongSupi h = absurd h
refused UnknownCounter h = absurd h
refused UnknownSubscription h = absurd h
refused UserUnknown h = absurd h

pub always_a_reply : (a : List Command) (q : Request) → is_some (reply_to (state_of a) q) ≡ true
always_a_reply a q =
    ap (λ v. is_some (verdict_reply (state_of a) v)) (decision_is a (Charge q))
    ∙ by (decisions.decision a (Charge q)) refl (request_suits a q)
  where
    by : (v : Verdict) → decisions.decision a (Charge q) ≡ v → IsOfRequest a v
        → is_some (verdict_reply (state_of a) v) ≡ true
    by (Kept place) e h =
        let f = found_from a q place e in
        ap (λ o. is_some (option_and_then (λ (r : KeptRequest). reply_of r.outcome) o)) (requests_are a place)
        ∙ all_charged a place
        ∙ there q (request_at a place) (repeats a f.k place q f.stands ∙ f.same)
    by Known e h = absurd h
    by (Refused refusal) e h = refused refusal h
    by (Fresh o) e h = ap (λ x. is_some (reply_of x)) h.1
