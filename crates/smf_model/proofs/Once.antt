-- Each container stands in one place, and is given up once.
use Rattle.std.proofs.Common.{◌≡◌, ⊎_elim, ℕ, ◌+◌, ◌<◌, ◌≤◌, ◌==◌, ◌||◌, not, Bool, true, false, cond, List, [], ◌∷◌, ◌++◌, length, refl, sym, ◌∙◌, ap, subst, arith}
use Rattle.std.specs.Prelude.{◌↔◌, Option, Some, None}
use Rattle.std.specs.List.{AllByRecursion}
use Rattle.std.proofs.lemmas.Bool.{eqb-true, eq-eqb, cases_eq}
use Rattle.sessions.specs.Kept.{is_success, uses}
use Rattle.sessions.specs.Trace.{Move, Phase, Cause, requests, settled, is_released, phase, or_cause, given_up, IsTrace}
use Rattle.sessions.specs.Trace.Move.{Closes, Drops, Freezes, Attempts, NotSent, NoReply, GivesUp, Answers}
use Rattle.sessions.specs.Trace.Phase.{Idle, Asked, Released, Unsent, Refused}
use Rattle.sessions.specs.Trace.Cause.{WasNotSent, HeldFull, WasRefused}
use Rattle.smf_model.specs.declared.setup.SmfSetup.{SmfSetup}
use Rattle.smf_model.specs.declared.session.Why.{Why}
use Rattle.smf_model.specs.declared.session.Why.TheVariants.{NotSent as IsNotSent, HeldFull as IsHeldFull, Refused as IsRefused}
use Rattle.smf_model.specs.declared.session.Place.{Place}
use Rattle.smf_model.specs.declared.session.Place.TheVariants.{Open, Waiting, Frozen, Answered, GivenUp}
use Rattle.smf_model.specs.declared.session.Holding.{Holding}
use Rattle.smf_model.specs.declared.session.Session.{Session}
use Rattle.smf_model.specs.declared.event.SmfEvent.{SmfEvent}
use Rattle.smf_model.specs.Machine.{machine_after, session_of}
use Rattle.smf_model.specs.Trace.{trace}
use Rattle.smf_model.specs.Places.{why_of, AreInOrder, StandsAsMoved}
use Rattle.smf_model.specs.Exact.{IsPlacedExactly, ArePlacedExactly}
use Rattle.smf_model.specs.Once.{Stands, StandsOnce, EachStandsOnce, is_dropped, is_refused, IsGivenUpFor}
use Rattle.smf_model.proofs.Exact.{exact_run}
use Rattle.smf_model.proofs.Traces.{moved_run, valid_run}

-- the container of a number

record IsThere (P : Holding → Type 0) (hs : List Holding) (lsn : ℕ) : Type 0 where
  holding : Holding
  number : holding.container.lsn ≡ lsn
  fact : P holding

found : (P : Holding → Type 0) (next lsn : ℕ) (hs : List Holding) → AreInOrder next hs → AllByRecursion P hs → next ≤ lsn → lsn < next + length hs → IsThere P hs lsn
found P next lsn [] order each l m = absurd (omega (arith, l, m))
found P next lsn (h ∷ hs) order each l m = ⊎_elim
    (λ (same : next ≡ lsn). record { holding = h; number = order.0 ∙ same; fact = each.0 })
    (λ (other : next ≡ lsn → ⊥).
    let later : next + 1 ≤ lsn = omega (arith, l, other) in
    let rest = found P (next + 1) lsn hs order.1 each.1 later (omega (arith, m)) in
    record { holding = rest.holding; number = rest.number; fact = rest.fact })
    (cases_eq next lsn)

abbrev pub cause_of : Why → Cause
cause_of IsNotSent = WasNotSent
cause_of IsHeldFull = HeldFull
cause_of IsRefused = WasRefused

pub same_why : (why : Why) → why_of (cause_of why) ≡ why
same_why IsNotSent = refl
same_why IsHeldFull = refl
same_why IsRefused = refl

stands_at : (t : List Move) (h : Holding) (place : Place) → IsPlacedExactly t h → h.place ≡ place → Stands t h.container.lsn place
stands_at t h Open x e = x.open_until.0 e
stands_at t h Waiting x e = x.waiting.0 e
stands_at t h Frozen x e = x.frozen.0 e
stands_at t h Answered x e = x.answered.0 e
stands_at t h (GivenUp why) x e = (cause_of why, same_why why, (x.given_up_with (cause_of why)).0 (e ∙ ap GivenUp (sym (same_why why))))

place_by : (t : List Move) (h : Holding) (place : Place) → IsPlacedExactly t h → Stands t h.container.lsn place → h.place ≡ place
place_by t h Open x e = x.open_until.1 e
place_by t h Waiting x e = x.waiting.1 e
place_by t h Frozen x e = x.frozen.1 e
place_by t h Answered x e = x.answered.1 e
place_by t h (GivenUp why) x e = (x.given_up_with e.0).1 e.2 ∙ ap GivenUp e.1

one_place : (t : List Move) (h : Holding) → IsPlacedExactly t h → StandsOnce t h.container.lsn
one_place t h x = record { place = h.place; stands = stands_at t h h.place x refl; only = λ other st. place_by t h other x st }

each_once : (t : List Move) (o : Option Session) → StandsAsMoved t o → ArePlacedExactly t o → EachStandsOnce t o
each_once t None m x = x
each_once t (Some s) m x = λ lsn l k.
    let h = found (IsPlacedExactly t) 1 lsn s.holdings m.numbered x (omega (arith, l)) (omega (arith, k)) in
    subst (StandsOnce t) h.number (one_place t h.holding h.fact)

pub once_run : (setup : SmfSetup) (events : List SmfEvent) (number : ℕ) → EachStandsOnce (trace setup events number) (session_of number (machine_after setup events).sessions)
once_run setup events number = each_once (trace setup events number) (session_of number (machine_after setup events).sessions) (moved_run setup events number) (exact_run setup events number)

-- why a container is given up: as too much, else by the phase, if it was left

abbrev cause_left : Phase → Bool → Option Cause
cause_left Unsent true = Some WasNotSent
cause_left Refused true = Some WasRefused
cause_left other left = None

abbrev cause_by : Phase → Bool → Bool → Option Cause
cause_by p true left = Some HeldFull
cause_by p false left = cause_left p left

-- while the session waits for a reply or for nothing, only what is too much is given up
on_asked : (p : Phase) (d left : Bool) → p ≡ Asked → cause_by p d left ≡ cond d (Some HeldFull) None
on_asked p true left e = refl
on_asked p false left e = ap (λ q. cause_left q left) e

on_idle : (p : Phase) (d left : Bool) → p ≡ Idle → cause_by p d left ≡ cond d (Some HeldFull) None
on_idle p true left e = refl
on_idle p false left e = ap (λ q. cause_left q left) e

asked_so : (d left : Bool) → cond d (Some HeldFull) None ≡ cause_by Asked d left
asked_so true left = refl
asked_so false left = refl

unsent_so : (d left : Bool) → or_cause (cond d (Some HeldFull) None) left WasNotSent ≡ cause_by Unsent d left
unsent_so true left = refl
unsent_so false true = refl
unsent_so false false = refl

refused_so : (d left : Bool) → or_cause (cond d (Some HeldFull) None) left WasRefused ≡ cause_by Refused d left
refused_so true left = refl
refused_so false true = refl
refused_so false false = refl

success_so : (r d left : Bool) → cond d (Some HeldFull) None ≡ cause_by (cond r Released Idle) d left
success_so true true left = refl
success_so true false left = refl
success_so false true left = refl
success_so false false left = refl

no_more : (o : Option Cause) → or_cause o false HeldFull ≡ o
no_more None = refl
no_more (Some c) = refl

pub cause_is : (t : List Move) (k : ℕ) → IsTrace t → given_up t k ≡ cause_by (phase t) (is_dropped k t) (uses k (settled t) == 0)
cause_is [] k v = refl
cause_is (Closes c ∷ t) k v = cause_is t k v.1
cause_is (Attempts ∷ t) k v = cause_is t k v.1
cause_is (NotSent ∷ t) k v = cause_is t k v.1
cause_is (NoReply ∷ t) k v = cause_is t k v.1
cause_is (Drops d ∷ t) k v = at (d == k) refl (cause_is t k v.1)
  where
    left : Bool
    left = uses k (settled t) == 0

    at : (b : Bool) → (d == k) ≡ b → given_up t k ≡ cause_by (phase t) (is_dropped k t) (uses k (settled t) == 0) → or_cause (given_up t k) b HeldFull ≡ cause_by (phase t) (b || is_dropped k t) (uses k (settled t) == 0)
    at true e ih = ap (λ o. or_cause o true HeldFull) (ap (given_up t) (sym (eqb-true d k e)) ∙ v.0.not_given_up)
    at false e ih = no_more (given_up t k) ∙ ih
cause_is (GivesUp ∷ t) k v =
    ap (λ o. or_cause o (uses k (settled t) == 0) WasNotSent) (cause_is t k v.1 ∙ on_asked (phase t) (is_dropped k t) (uses k (settled t) == 0) v.0.0) ∙ unsent_so (is_dropped k t) (uses k (settled t) == 0)
cause_is (Freezes q ∷ t) k v = cause_is t k v.1 ∙ on_idle (phase t) (is_dropped k t) (uses k (settled t) == 0) v.0.idle ∙ asked_so (is_dropped k t) (uses k (settled t) == 0)
cause_is (Answers p ∷ t) k v = at (is_success p) (cause_is t k v.1 ∙ on_asked (phase t) (is_dropped k t) (uses k (settled t) == 0) v.0)
  where
    at : (b : Bool) → given_up t k ≡ cond (is_dropped k t) (Some HeldFull) None
        → cond b (given_up t k) (or_cause (given_up t k) (uses k (settled t) == 0) WasRefused)
        ≡ cause_by (cond b (cond (is_released (requests t)) Released Idle) Refused) (is_dropped k t) (uses k (cond b (requests t) (settled t)) == 0)
    at true g = g ∙ success_so (is_released (requests t)) (is_dropped k t) (uses k (requests t) == 0)
    at false g = ap (λ o. or_cause o (uses k (settled t) == 0) WasRefused) g ∙ refused_so (is_dropped k t) (uses k (settled t) == 0)

-- by the causes

held_full_by : (p : Phase) (d left : Bool) → (cause_by p d left ≡ Some HeldFull) ↔ (d ≡ true)
held_full_by p true left = (λ e. refl, λ e. refl)
held_full_by Idle false left = (λ e. cc, λ e. cc)
held_full_by Asked false left = (λ e. cc, λ e. cc)
held_full_by Released false left = (λ e. cc, λ e. cc)
held_full_by Unsent false true = (λ e. cc, λ e. cc)
held_full_by Unsent false false = (λ e. cc, λ e. cc)
held_full_by Refused false true = (λ e. cc, λ e. cc)
held_full_by Refused false false = (λ e. cc, λ e. cc)

not_sent_by : (p : Phase) (d left : Bool) → (cause_by p d left ≡ Some WasNotSent) ↔ ((p ≡ Unsent) × (d ≡ false) × (left ≡ true))
not_sent_by p true left = (λ e. cc, λ e. let f : true ≡ false = e.1 in cc)
not_sent_by Idle false left = (λ e. cc, λ e. let f : Idle ≡ Unsent = e.0 in cc)
not_sent_by Asked false left = (λ e. cc, λ e. let f : Asked ≡ Unsent = e.0 in cc)
not_sent_by Released false left = (λ e. cc, λ e. let f : Released ≡ Unsent = e.0 in cc)
not_sent_by Unsent false true = (λ e. (refl, refl, refl), λ e. refl)
not_sent_by Unsent false false = (λ e. cc, λ e. let f : false ≡ true = e.2 in cc)
not_sent_by Refused false true = (λ e. cc, λ e. let f : Refused ≡ Unsent = e.0 in cc)
not_sent_by Refused false false = (λ e. cc, λ e. let f : Refused ≡ Unsent = e.0 in cc)

refused_by : (p : Phase) (d left : Bool) → (cause_by p d left ≡ Some WasRefused) ↔ ((p ≡ Refused) × (d ≡ false) × (left ≡ true))
refused_by p true left = (λ e. cc, λ e. let f : true ≡ false = e.1 in cc)
refused_by Idle false left = (λ e. cc, λ e. let f : Idle ≡ Refused = e.0 in cc)
refused_by Asked false left = (λ e. cc, λ e. let f : Asked ≡ Refused = e.0 in cc)
refused_by Released false left = (λ e. cc, λ e. let f : Released ≡ Refused = e.0 in cc)
refused_by Unsent false true = (λ e. cc, λ e. let f : Unsent ≡ Refused = e.0 in cc)
refused_by Unsent false false = (λ e. cc, λ e. let f : Unsent ≡ Refused = e.0 in cc)
refused_by Refused false true = (λ e. (refl, refl, refl), λ e. refl)
refused_by Refused false false = (λ e. cc, λ e. let f : false ≡ true = e.2 in cc)

-- a refusal

abbrev refused_in : Phase → Bool
refused_in Refused = true
refused_in other = false

refusal_so : (b r : Bool) → (not b || false) ≡ refused_in (cond b (cond r Released Idle) Refused)
refusal_so true true = refl
refusal_so true false = refl
refusal_so false r = refl

refusal_is : (t : List Move) → IsTrace t → is_refused t ≡ refused_in (phase t)
refusal_is [] v = refl
refusal_is (Closes c ∷ t) v = refusal_is t v.1
refusal_is (Drops d ∷ t) v = refusal_is t v.1
refusal_is (Attempts ∷ t) v = refusal_is t v.1
refusal_is (NotSent ∷ t) v = refusal_is t v.1
refusal_is (NoReply ∷ t) v = refusal_is t v.1
refusal_is (GivesUp ∷ t) v = refusal_is t v.1 ∙ ap refused_in v.0.0
refusal_is (Freezes q ∷ t) v = refusal_is t v.1 ∙ ap refused_in v.0.idle
refusal_is (Answers p ∷ t) v = ap (λ b. not (is_success p) || b) (refusal_is t v.1 ∙ ap refused_in v.0) ∙ refusal_so (is_success p) (is_released (requests t))

is_refused_by : (p : Phase) → refused_in p ≡ true → p ≡ Refused
is_refused_by Idle e = cc
is_refused_by Asked e = cc
is_refused_by Released e = cc
is_refused_by Unsent e = cc
is_refused_by Refused e = refl

-- a cause stands

stands_caused : (o : Option Cause) (b : Bool) (later cause : Cause) → o ≡ Some cause → or_cause o b later ≡ Some cause
stands_caused o b later cause e = ap (λ x. or_cause x b later) e

stands_later : (newer t : List Move) (k : ℕ) (cause : Cause) → given_up t k ≡ Some cause → given_up (newer ++ t) k ≡ Some cause
stands_later [] t k cause g = g
stands_later (Closes c ∷ ms) t k cause g = stands_later ms t k cause g
stands_later (Attempts ∷ ms) t k cause g = stands_later ms t k cause g
stands_later (NotSent ∷ ms) t k cause g = stands_later ms t k cause g
stands_later (NoReply ∷ ms) t k cause g = stands_later ms t k cause g
stands_later (Freezes q ∷ ms) t k cause g = stands_later ms t k cause g
stands_later (Drops d ∷ ms) t k cause g = stands_caused (given_up (ms ++ t) k) (d == k) HeldFull cause (stands_later ms t k cause g)
stands_later (GivesUp ∷ ms) t k cause g = stands_caused (given_up (ms ++ t) k) (uses k (settled (ms ++ t)) == 0) WasNotSent cause (stands_later ms t k cause g)
stands_later (Answers p ∷ ms) t k cause g = at (is_success p) (stands_later ms t k cause g)
  where
    at : (b : Bool) → given_up (ms ++ t) k ≡ Some cause → cond b (given_up (ms ++ t) k) (or_cause (given_up (ms ++ t) k) (uses k (settled (ms ++ t)) == 0) WasRefused) ≡ Some cause
    at true h = h
    at false h = stands_caused (given_up (ms ++ t) k) (uses k (settled (ms ++ t)) == 0) WasRefused cause h

given_for : (t : List Move) (k : ℕ) → IsTrace t → IsGivenUpFor t k
given_for t k v =
    let is = cause_is t k v in
    let d = is_dropped k t in
    let full = held_full_by (phase t) (is_dropped k t) (uses k (settled t) == 0) in
    let sent = not_sent_by (phase t) (is_dropped k t) (uses k (settled t) == 0) in
    let ref = refused_by (phase t) (is_dropped k t) (uses k (settled t) == 0) in
    record {
      held_full = (λ e. full.0 (sym is ∙ e), λ e. is ∙ full.1 e);
      not_sent = (
        λ e. let r = sent.0 (sym is ∙ e) in (r.0, record { kept = r.1; unanswered = eqb-true (uses k (settled t)) 0 r.2 }),
        λ e. is ∙ sent.1 (e.0, e.1.kept, eq-eqb (uses k (settled t)) 0 e.1.unanswered),
      );
      refused = (
        λ e. let r = ref.0 (sym is ∙ e) in (r.0, record { kept = r.1; unanswered = eqb-true (uses k (settled t)) 0 r.2 }),
        λ e. is ∙ ref.1 (e.0, e.1.kept, eq-eqb (uses k (settled t)) 0 e.1.unanswered),
      );
      refusal = (λ e. refusal_is t v ∙ ap refused_in e, λ e. is_refused_by (phase t) (sym (refusal_is t v) ∙ e));
      once = λ newer cause g. stands_later newer t k cause g;
    }

pub given_run : (setup : SmfSetup) (events : List SmfEvent) (number lsn : ℕ) → IsGivenUpFor (trace setup events number) lsn
given_run setup events number lsn = given_for (trace setup events number) lsn (valid_run setup events number)
