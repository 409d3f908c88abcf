-- Each place exactly where the moves say so.
use Rattle.std.proofs.Common.{◌≡◌, ℕ, ◌+◌, ◌<◌, ◌≤◌, ◌==◌, Bool, true, false, List, [], ◌∷◌, refl, sym, ◌∙◌, ap, subst, arith}
use Rattle.std.specs.Prelude.{Option, Some, None}
use Rattle.std.specs.List.{AllByRecursion}
use Rattle.std.proofs.lemmas.Bool.{eqb-true, eq-eqb, ne_eqb}
use Rattle.std.proofs.lemmas.Bool.Decides.{nat_tests}
use Rattle.units.specs.declared.trigger.Closed.{Closed}
use Rattle.units.specs.declared.request.Request.{Request}
use Rattle.sessions.specs.Kept.{occurs_in, uses}
use Rattle.sessions.specs.Trace.{Move, Phase, Cause, requests, settled, phase, closed_as, given_up, IsWaiting, IsTrace}
use Rattle.sessions.specs.Trace.Phase.{Idle, Asked, Released, Unsent, Refused}
use Rattle.sessions.specs.Trace.Cause.{WasNotSent, HeldFull as HeldFullCause, WasRefused}
use Rattle.smf_model.specs.declared.setup.SmfSetup.{SmfSetup}
use Rattle.smf_model.specs.declared.session.Why.{Why}
use Rattle.smf_model.specs.declared.session.Why.TheVariants.{NotSent as IsNotSent, HeldFull as IsHeldFull, Refused as IsRefused}
use Rattle.smf_model.specs.declared.session.Place.{Place}
use Rattle.smf_model.specs.declared.session.Place.TheVariants.{Open, Waiting, Frozen, Answered, GivenUp}
use Rattle.smf_model.specs.declared.session.Holding.{Holding}
use Rattle.smf_model.specs.declared.session.Session.{Session}
use Rattle.smf_model.specs.declared.event.SmfEvent.{SmfEvent}
use Rattle.smf_model.specs.Settle.{is_open, is_waiting}
use Rattle.smf_model.specs.Machine.{machine_after, session_of}
use Rattle.smf_model.specs.Trace.{trace, unanswered}
use Rattle.smf_model.specs.Places.{why_of, place_by}
use Rattle.smf_model.specs.Exact.{IsAsked, IsPlacedExactly, ArePlacedExactly}
use Rattle.smf_model.specs.Apart.{is_lost}
use Rattle.smf_model.specs.GivenUps.{why_in}
use Rattle.smf_model.proofs.TraceLaws.{uses_settled, unclosed_unused, NewestBy, newest_by, unanswered_asked, once, given_apart, lost_given}
use Rattle.smf_model.proofs.Placed.{IsAt, placed_by, unclosed_by, is_waiting_by}
use Rattle.smf_model.proofs.Lifting.{With}
use Rattle.smf_model.proofs.Traces.{StandsWhole, whole_run}

positive : (n : ℕ) → (n == 0) ≡ false → 0 < n
positive n e = grind (arith, nat_tests)

not_zero : (n : ℕ) → 0 < n → (n == 0) ≡ false
not_zero n l = ne_eqb n 0 (λ e. omega (arith, l, e))

-- an option that is not None
record IsThere {A : Type 0} (o : Option A) : Type 0 where
  value : A
  is : o ≡ Some value

there : {A : Type 0} (o : Option A) → (o ≡ None → ⊥) → IsThere o
there None never = absurd (never refl)
there (Some a) never = record { value = a; is = refl }

absent : {A : Type 0} (o : Option A) → ((a : A) → o ≡ Some a → ⊥) → o ≡ None
absent None never = refl
absent (Some a) never = absurd (never a refl)

record IsFrozenBy (c : Option Closed) (g : Option Cause) (x y : Bool) : Type 0 where
  not_given : g ≡ None
  in_some : x ≡ false
  unanswered : y ≡ true

frozen_by : (c : Option Closed) (g : Option Cause) (x y : Bool) → place_by c g x y ≡ Frozen → IsFrozenBy c g x y
frozen_by None g x y e = cc
frozen_by (Some c) (Some g) x y e = cc
frozen_by (Some c) None true y e = cc
frozen_by (Some c) None false true e = record { not_given = refl; in_some = refl; unanswered = refl }
frozen_by (Some c) None false false e = cc

answered_by_place : (c : Option Closed) (g : Option Cause) (x y : Bool) → place_by c g x y ≡ Answered → y ≡ false
answered_by_place None g x y e = cc
answered_by_place (Some c) (Some g) x y e = cc
answered_by_place (Some c) None true y e = cc
answered_by_place (Some c) None false true e = cc
answered_by_place (Some c) None false false e = refl

abbrev cause_of : Why → Cause
cause_of IsNotSent = WasNotSent
cause_of IsHeldFull = HeldFullCause
cause_of IsRefused = WasRefused

same_cause : (c : Cause) → cause_of (why_of c) ≡ c
same_cause WasNotSent = refl
same_cause HeldFullCause = refl
same_cause WasRefused = refl

abbrev cause_in : Option Why → Option Cause
cause_in None = None
cause_in (Some why) = Some (cause_of why)

given_by : (c : Option Closed) (g : Option Cause) (x y : Bool) (cause : Cause) → place_by c g x y ≡ GivenUp (why_of cause) → g ≡ Some cause
given_by None g x y cause e = cc
given_by (Some c) (Some w) x y cause e =
    let same : Some (cause_of (why_of w)) ≡ Some (cause_of (why_of cause)) = ap (λ p. cause_in (why_in p)) e in
    ap Some (sym (same_cause w)) ∙ same ∙ ap Some (same_cause cause)
given_by (Some c) None true y cause e = cc
given_by (Some c) None false true cause e = cc
given_by (Some c) None false false cause e = cc

-- a container in the unanswered request, by the phase
asked_by : (p : Phase) (o : Option Request) (all answered : List Request) (k : ℕ) → NewestBy p o all answered → is_lost p ≡ false → (uses k all == 0) ≡ false → (uses k answered == 0) ≡ true
    → (q : Request) × (o ≡ Some q) × (0 < occurs_in k q.usage)
asked_by Idle o all answered k n on some none = absurd (let f : true ≡ false = sym none ∙ ap (λ rs. uses k rs == 0) (sym n) ∙ some in cc)
asked_by Released o all answered k n on some none = absurd (let f : true ≡ false = sym none ∙ ap (λ rs. uses k rs == 0) (sym n) ∙ some in cc)
asked_by Asked o all answered k (q, is, whole) on some none =
    let used : 0 < uses k all = positive (uses k all) some in
    let split : uses k all ≡ occurs_in k q.usage + uses k answered = ap (uses k) whole in
    let zero_uses : uses k answered ≡ 0 = eqb-true (uses k answered) 0 none in
    (q, is, omega (arith, used, split, zero_uses))
asked_by Unsent o all answered k n on some none = cc
asked_by Refused o all answered k n on some none = cc

exactly : (t : List Move) (h : Holding) → IsTrace t → IsAt t h → IsPlacedExactly t h
exactly t h v a = record {
  open_until = (λ e. unclosed_by t h (ap is_open e) a, λ none. a.place ∙ ap (λ o. place_by o (given_up t k) in_none unanswered_yet) none);
  waiting = (λ e. is_waiting_by t h (ap is_waiting e) a, waits);
  frozen = (asked, frozen);
  answered = (λ e. positive (uses k (settled t)) (answered_by_place (closed_as t k) (given_up t k) in_none unanswered_yet (sym a.place ∙ e)), answered);
  given_up_with = λ cause. (λ e. given_by (closed_as t k) (given_up t k) in_none unanswered_yet cause (sym a.place ∙ e), given cause);
  once = once t k v;
}
  where
    k : ℕ
    k = h.container.lsn

    in_none : Bool
    in_none = uses k (requests t) == 0

    unanswered_yet : Bool
    unanswered_yet = uses k (settled t) == 0

    waits : IsWaiting t k → h.place ≡ Waiting
    waits w =
        a.place ∙ placed_by (closed_as t k) (given_up t k) in_none unanswered_yet w.closed true unanswered_yet w.is_closed w.not_given_up (eq-eqb (uses k (requests t)) 0 w.in_none) refl

    not_lost : given_up t k ≡ None → unanswered_yet ≡ true → is_lost (phase t) ≡ false
    not_lost none yet = at (is_lost (phase t)) refl
      where
        at : (b : Bool) → is_lost (phase t) ≡ b → b ≡ false
        at false e = refl
        at true e = absurd (lost_given t k e (eqb-true (uses k (settled t)) 0 yet) none)

    asked : h.place ≡ Frozen → IsAsked t k
    asked e =
        let f : IsFrozenBy (closed_as t k) (given_up t k) in_none unanswered_yet = frozen_by (closed_as t k) (given_up t k) in_none unanswered_yet (sym a.place ∙ e) in
        asked_by (phase t) (unanswered t) (requests t) (settled t) k (newest_by t v) (not_lost f.not_given f.unanswered) f.in_some f.unanswered

    closed : 0 < uses k (requests t) → IsThere (closed_as t k)
    closed l = there (closed_as t k) (λ none. let zero_uses = unclosed_unused t k v none in omega (arith, l, zero_uses))

    frozen : IsAsked t k → h.place ≡ Frozen
    frozen (q, is, l) =
        let phase_is : phase t ≡ Asked = unanswered_asked t q is in
        let newest : NewestBy Asked (unanswered t) (requests t) (settled t) = subst (λ p. NewestBy p (unanswered t) (requests t) (settled t)) phase_is (newest_by t v) in
        let usage : newest.0 ≡ q = let e : Some newest.0 ≡ Some q = sym newest.1 ∙ is in cc in
        let split : uses k (requests t) ≡ occurs_in k newest.0.usage + uses k (settled t) = ap (uses k) newest.2 in
        let same : occurs_in k newest.0.usage ≡ occurs_in k q.usage = ap (λ (r : Request). occurs_in k r.usage) usage in
        let most : uses k (requests t) ≤ 1 = once t k v in
        let used : 0 < uses k (requests t) = omega (arith, split, same, l) in
        let none : uses k (settled t) ≡ 0 = omega (arith, split, same, l, most) in
        let on : is_lost (phase t) ≡ false = ap is_lost phase_is in
        let not_given : given_up t k ≡ None = absent (given_up t k) (λ w g. let z : uses k (requests t) ≡ 0 = (given_apart t k w v g).in_none on in omega (arith, used, z)) in
        let c : IsThere (closed_as t k) = closed used in
        a.place ∙ placed_by (closed_as t k) (given_up t k) in_none unanswered_yet c.value false true c.is not_given (not_zero (uses k (requests t)) used) (eq-eqb (uses k (settled t)) 0 none)

    answered : 0 < uses k (settled t) → h.place ≡ Answered
    answered l =
        let within : uses k (settled t) ≤ uses k (requests t) = uses_settled t k in
        let used : 0 < uses k (requests t) = omega (arith, l, within) in
        let not_given : given_up t k ≡ None = absent (given_up t k) (λ w g. let z : uses k (settled t) ≡ 0 = (given_apart t k w v g).unanswered in omega (arith, l, z)) in
        let c : IsThere (closed_as t k) = closed used in
        a.place ∙ placed_by (closed_as t k) (given_up t k) in_none unanswered_yet c.value false false c.is not_given (not_zero (uses k (requests t)) used) (not_zero (uses k (settled t)) l)

    given : (cause : Cause) → given_up t k ≡ Some cause → h.place ≡ GivenUp (why_of cause)
    given cause g =
        let c : IsThere (closed_as t k) = there (closed_as t k) (λ none. let f : None ≡ Some cause = sym (a.untouched none) ∙ g in cc) in
        a.place ∙ ap (λ o. place_by o (given_up t k) in_none unanswered_yet) c.is ∙ ap (λ x. place_by (Some c.value) x in_none unanswered_yet) g

all_exactly : (t : List Move) (hs : List Holding) → IsTrace t → AllByRecursion (IsAt t) hs → AllByRecursion (IsPlacedExactly t) hs
all_exactly t [] v a = tt
all_exactly t (h ∷ hs) v a = (exactly t h v a.0, all_exactly t hs v a.1)

with_exactly : (t : List Move) (o : Option Session) → With StandsWhole t o → ArePlacedExactly t o
with_exactly t None h = h
with_exactly t (Some s) h = all_exactly t s.holdings h.0.valid h.0.each

pub exact_run : (setup : SmfSetup) (events : List SmfEvent) (number : ℕ) → ArePlacedExactly (trace setup events number) (session_of number (machine_after setup events).sessions)
exact_run setup events number = with_exactly (trace setup events number) (session_of number (machine_after setup events).sessions) (whole_run setup events number)
