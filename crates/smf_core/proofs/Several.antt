-- An event for all sessions looks at those alone that it may change, and leaves each at rest.
use Rattle.std.proofs.Common.{◌≡◌, ℕ, zero, suc, ◌+◌, ◌<◌, ◌≤◌, Bool, true, false, cond, List, [], ◌∷◌, ◌++◌, length, map, max, set, refl, sym, ◌∙◌, ap, subst, arith}
use Rattle.std.specs.Prelude.{None, Result, Ok, Err}
use Rattle.std.specs.List.{AllByRecursion}
use Rattle.std.proofs.lemmas.List.{length-map}
use Rattle.units.specs.Limits.{greatest_moment}
use Rattle.units.specs.declared.request.Operation.TheVariants.{Create}
use Rattle.smf_model.specs.declared.setup.SmfSetup.{SmfSetup}
use Rattle.smf_model.specs.declared.session.Session.{Session}
use Rattle.smf_model.specs.declared.session.Machine.{Machine}
use Rattle.smf_model.specs.declared.event.SmfEvent.{SmfEvent}
use Rattle.smf_model.specs.declared.event.SmfEvent.TheVariants.{Attach, Start, Count, Change as Changes, Tick, Detach, Answered, Attempt, NotSent, NoReply, Restart}
use Rattle.smf_model.specs.declared.refusal.Seen.{Seen}
use Rattle.smf_model.specs.declared.refusal.Seen.TheVariants.{New, Known}
use Rattle.smf_model.specs.declared.refusal.SmfRefusal.{SmfRefusal}
use Rattle.smf_model.specs.Freeze.{with_request}
use Rattle.smf_model.specs.Machine.{touches, effect, fresh, finished, next_session, added_by, now_after, answer_of, after_answer}
use Rattle.smf_model.specs.Resting.{IsAtRest, RestsUntilEnd}
use Rattle.agenda.specs.declared.mark.Mark.{Mark}
use Rattle.agenda.specs.declared.mark.Search.{Search}
use Rattle.agenda.specs.declared.mark.Search.TheVariants.{Due, Flies}
use Rattle.agenda.specs.Marks.{finds, places_from}
use Rattle.smf_core.specs.declared.plan.Turn.{Turn}
use Rattle.smf_core.specs.declared.plan.Next.{Next}
use Rattle.smf_core.specs.declared.plan.Next.TheVariants.{Nothing, One, Several}
use Rattle.smf_core.specs.declared.plan.SmfPlan.{SmfPlan}
use Rattle.smf_core.specs.Lookup.{subject}
use Rattle.smf_core.specs.Caches.{KeptAs, AreAtRest, sessions_of}
use Rattle.smf_core.specs.Plan.{changed, turned, sessions_next, added_in, map_at, IsPlanOf, AreReady, NextIsReady}
use Rattle.smf_core.specs.Turns.{mapped_at, AreAll, AreFrom, IsAt, with_next}
use Rattle.smf_core.specs.Marking.{mark_of, marks_of, looked_at}
use Rattle.smf_core.proofs.Turns.{AreBelow, below_more, below_push, ready-push, ready-others, turned-last}
use Rattle.smf_core.proofs.Marked.{places_behind}
use Rattle.smf_core.proofs.Nexts.{untouched_now}

-- the places ascend

from_less : (j k : ℕ) (ps : List ℕ) → j ≤ k → AreFrom k ps → AreFrom j ps
from_less j k [] l h = tt
from_less j k (p ∷ ps) l h = let b = h.0 in (omega (arith, l, b), h.1)

pub places_ascend : (s : Search) (k : ℕ) (ms : List Mark) → AreFrom k (places_from s k ms)
places_ascend s k [] = tt
places_ascend s k (m ∷ ms) = at (finds s m) (places_ascend s (k + 1) ms)
  where
    at : (b : Bool) → AreFrom (k + 1) (places_from s (k + 1) ms) → AreFrom k (cond b (k ∷ places_from s (k + 1) ms) (places_from s (k + 1) ms))
    at true ih = (omega arith, ih)
    at false ih = from_less k (k + 1) (places_from s (k + 1) ms) (omega arith) ih

-- changes are below the places that are left
abbrev pub AreNext : List Turn → List ℕ → Type 0
AreNext ts [] = Unit {0}
AreNext ts (p ∷ ps) = AreBelow p ts × AreFrom (p + 1) ps

pub next_none : (at : ℕ) (ps : List ℕ) → AreFrom at ps → AreNext [] ps
next_none at [] h = tt
next_none at (p ∷ ps) h = (tt, h.1)

below_next : (at more : ℕ) (ts : List Turn) (next : Next) → at < more → AreBelow at ts → IsAt at next → AreBelow more (with_next ts next)
below_next at more ts Nothing l b i = below_more at more ts (omega (arith, l)) b
below_next at more ts (One t) l b i = below_push more ts t (below_more at more ts (omega (arith, l)) b) (omega (arith, l, i))
below_next at more ts (Several us) l b i = absurd i

next_more : (ts : List Turn) (p : ℕ) (ps : List ℕ) (next : Next) → AreNext ts (p ∷ ps) → IsAt p next → AreNext (with_next ts next) ps
next_more ts p [] next h i = tt
next_more ts p (q ∷ qs) next h i = let l = h.1.0 in (below_next p q ts next (omega (arith, l)) h.0 i, h.1.1)

-- one more change

map_at-swap : (i j : ℕ) (f g : Session → Session) (ss : List Session) → i < j → map_at i f (map_at j g ss) ≡ map_at j g (map_at i f ss)
map_at-swap i j f g [] l = refl
map_at-swap i zero f g (s ∷ ss) l = absurd (omega (arith, l))
map_at-swap zero (suc j) f g (s ∷ ss) l = refl
map_at-swap (suc i) (suc j) f g (s ∷ ss) l = ap (λ xs. s ∷ xs) (map_at-swap i j f g ss (omega (arith, l)))

turned-behind : (at : ℕ) (f : Session → Session) (ts : List Turn) (ss : List Session) → AreBelow at ts → turned ts (map_at at f ss) ≡ map_at at f (turned ts ss)
turned-behind at f [] ss b = refl
turned-behind at f (t ∷ ts) ss b = ap (map_at t.at (changed t.change)) (turned-behind at f ts ss b.1) ∙ map_at-swap t.at at (changed t.change) f (turned ts ss) b.0

turned_next : (f : Session → Session) (ts : List Turn) (next : Next) (at : ℕ) (ss : List Session) → AreBelow at ts → IsAt at next → sessions_next next ss ≡ map_at at f ss → turned (with_next ts next) ss ≡ map_at at f (turned ts ss)
turned_next f ts Nothing at ss b i e = ap (turned ts) e ∙ turned-behind at f ts ss b
turned_next f ts (One t) at ss b i e = turned-last ts t ss ∙ ap (turned ts) e ∙ turned-behind at f ts ss b
turned_next f ts (Several us) at ss b i e = absurd i

ready_more : (ts : List Turn) (next : Next) (at : ℕ) (ks : List KeptAs) → AreBelow at ts → IsAt at next → AreReady ts ks → NextIsReady next ks → AreReady (with_next ts next) ks
ready_more ts Nothing at ks b i r n = r
ready_more ts (One t) at ks b i r n = ready-push ts t ks r (below_more at t.at ts (omega (arith, i)) b) n
ready_more ts (Several us) at ks b i r n = absurd i

map_at-past : (at : ℕ) (f : Session → Session) (ss : List Session) → length ss ≤ at → map_at at f ss ≡ ss
map_at-past at f [] l = refl
map_at-past zero f (s ∷ ss) l = absurd (omega (arith, l))
map_at-past (suc at) f (s ∷ ss) l = ap (λ xs. s ∷ xs) (map_at-past at f ss (omega (arith, l)))

-- a loop over places, as far as it came
pub record IsTurned (f : Session → Session) (ss : List Session) (places left : List ℕ) (ts : List Turn) (ks : List KeptAs) : Type 0 where
  pub same : sessions_of ks ≡ ss
  pub next : AreNext ts left
  pub made : mapped_at f (turned ts ss) left ≡ mapped_at f ss places
  pub ready : AreReady ts ks

pub turned_first : (f : Session → Session) (ks : List KeptAs) (places : List ℕ) → AreFrom 0 places → IsTurned f (sessions_of ks) places places [] ks
turned_first f ks places h = record { same = refl; next = next_none 0 places h; made = refl; ready = tt }

pub turned_more : (f : Session → Session) (ss : List Session) (places left : List ℕ) (at : ℕ) (ts us : List Turn) (next : Next) (ks ns : List KeptAs) (k : KeptAs)
    → IsTurned f ss places (at ∷ left) ts ks → us ≡ with_next ts next → ns ≡ set ks at k → sessions_of ns ≡ sessions_of ks → sessions_next next (sessions_of ks) ≡ map_at at f (sessions_of ks) → IsAt at next → NextIsReady next ns
    → IsTurned f ss places left us ns
turned_more f ss places left at ts us next ks ns k h e others same made i ready =
    let one : sessions_next next ss ≡ map_at at f ss = subst (λ xs. sessions_next next xs ≡ map_at at f xs) h.same made in
    subst (λ vs. IsTurned f ss places left vs ns) (sym e)
    (record {
      same = same ∙ h.same;
      next = next_more ts at left next h.next i;
      made = ap (λ xs. mapped_at f xs left) (turned_next f ts next at ss h.next.0 i one) ∙ h.made;
      ready = ready_more ts next at ns h.next.0 i (subst (AreReady ts) (sym others) (ready-others ts at ks k h.next.0 h.ready)) ready;
    })

pub turned_past : (f : Session → Session) (ss : List Session) (places left : List ℕ) (at : ℕ) (ts : List Turn) (ks : List KeptAs) → IsTurned f ss places (at ∷ left) ts ks → length ks ≤ at → IsTurned f ss places left ts ks
turned_past f ss places left at ts ks h l =
    let long : length ss ≡ length ks = sym (ap length h.same) ∙ length-map ks (λ (k : KeptAs). k.session) in
    let past : map_at at f ss ≡ ss = map_at-past at f ss (omega (arith, l, long)) in
    record {
      same = h.same;
      next = next_more ts at left Nothing h.next tt;
      made = ap (λ xs. mapped_at f xs left) (ap (turned ts) (sym past) ∙ turned-behind at f ts ss h.next.0) ∙ h.made;
      ready = h.ready;
    }

-- these are all that it touches

mapped-behind : (f : Session → Session) (s : Session) (ss : List Session) (ps : List ℕ) → mapped_at f (s ∷ ss) (map (λ p. suc p) ps) ≡ s ∷ mapped_at f ss ps
mapped-behind f s ss [] = refl
mapped-behind f s ss (p ∷ ps) = mapped-behind f s (map_at p f ss) ps

-- where each session that is not found stays as it is
mapped_found : (search : Search) (f : Session → Session) (setup : SmfSetup) (now : ℕ) (ss : List Session)
    → AllByRecursion (λ s. finds search (mark_of setup now s) ≡ false → f s ≡ s) ss → mapped_at f ss (places_from search 0 (marks_of setup now ss)) ≡ map f ss
mapped_found search f setup now [] still = refl
mapped_found search f setup now (s ∷ ss) still = at (finds search (mark_of setup now s)) refl (mapped_found search f setup now ss still.1)
  where
    rest : (x : Session) → mapped_at f ss (places_from search 0 (marks_of setup now ss)) ≡ map f ss → mapped_at f (x ∷ ss) (places_from search (0 + 1) (marks_of setup now ss)) ≡ x ∷ map f ss
    rest x ih = ap (mapped_at f (x ∷ ss)) (places_behind search 0 (marks_of setup now ss)) ∙ mapped-behind f x ss (places_from search 0 (marks_of setup now ss)) ∙ ap (λ xs. x ∷ xs) ih

    at : (b : Bool) → finds search (mark_of setup now s) ≡ b → mapped_at f ss (places_from search 0 (marks_of setup now ss)) ≡ map f ss
        → mapped_at f (s ∷ ss) (cond b (0 ∷ places_from search (0 + 1) (marks_of setup now ss)) (places_from search (0 + 1) (marks_of setup now ss))) ≡ map f (s ∷ ss)
    at true e ih = rest (f s) ih
    at false e ih = rest s ih ∙ ap (λ x. x ∷ map f ss) (sym (still.0 e))

found_all : (search : Search) (f : Session → Session) (setup : SmfSetup) (now : ℕ) (ss : List Session)
    → AllByRecursion (λ s. finds search (mark_of setup now s) ≡ false → f s ≡ s) ss → AreAll f ss (places_from search 0 (marks_of setup now ss))
found_all search f setup now ss still = record { ascend = places_ascend search 0 (marks_of setup now ss); all = mapped_found search f setup now ss still }

-- a restart leaves a session without an attempt in flight as it is
restarts_still : (setup : SmfSetup) (before now : ℕ) (ss : List Session) → AllByRecursion (λ s. finds Flies (mark_of setup before s) ≡ false → next_session setup now Restart s ≡ s) ss
restarts_still setup before now [] = tt
restarts_still setup before now (s ∷ ss) = (λ e. untouched_now Restart setup now s e, restarts_still setup before now ss)

-- a tick leaves one at rest as it is until its rest ends
ticks_still : ((setup : SmfSetup) (s : Session) → IsAtRest setup s → RestsUntilEnd setup s) → (setup : SmfSetup) (before now moment : ℕ) (ss : List Session) → now ≤ greatest_moment → AreAtRest setup ss
    → AllByRecursion (λ s. finds (Due now) (mark_of setup before s) ≡ false → next_session setup now (Tick moment) s ≡ s) ss
ticks_still until setup before now moment [] l rest = tt
ticks_still until setup before now moment (s ∷ ss) l rest = (λ e. until setup s rest.0 now l e, ticks_still until setup before now moment ss l rest.1)

pub looked_all : ((setup : SmfSetup) (s : Session) → IsAtRest setup s → RestsUntilEnd setup s) → (event : SmfEvent) (m : Machine) → now_after m.moment event ≤ greatest_moment → AreAtRest m.setup m.sessions → subject event ≡ None
    → AreAll (next_session m.setup (now_after m.moment event) event) m.sessions (looked_at m event)
looked_all until (Attach session subscriber groups moment) m l rest e = cc
looked_all until (Start session group moment) m l rest e = cc
looked_all until (Count session r) m l rest e = cc
looked_all until (Changes session trigger moment) m l rest e = cc
looked_all until (Tick moment) m l rest e =
    let now : ℕ = max m.moment moment in found_all (Due now) (next_session m.setup now (Tick moment)) m.setup m.moment m.sessions (ticks_still until m.setup m.moment now moment m.sessions l rest)
looked_all until (Detach session abnormal moment) m l rest e = cc
looked_all until (Answered session number reply) m l rest e = cc
looked_all until (Attempt session peer) m l rest e = cc
looked_all until (NotSent session) m l rest e = cc
looked_all until (NoReply session) m l rest e = cc
looked_all until Restart m l rest e = found_all Flies (next_session m.setup m.moment Restart) m.setup m.moment m.sessions (restarts_still m.setup m.moment m.moment m.sessions)

-- an event leaves each session at rest

next_rests : ((setup : SmfSetup) (now : ℕ) (s : Session) → IsAtRest setup (finished setup now s)) → (setup : SmfSetup) (now : ℕ) (event : SmfEvent) (ss : List Session) → AreAtRest setup ss → AreAtRest setup (map (next_session setup now event) ss)
next_rests after setup now event [] rest = tt
next_rests after setup now event (s ∷ ss) rest = (at (touches event s), next_rests after setup now event ss rest.1)
  where
    at : (b : Bool) → IsAtRest setup (cond b (finished setup now (effect setup now event s)) s)
    at true = after setup now (effect setup now event s)
    at false = rest.0

added_rests : ((setup : SmfSetup) (now : ℕ) (s : Session) → IsAtRest setup (finished setup now s)) → (setup : SmfSetup) (now : ℕ) (event : SmfEvent) → AreAtRest setup (added_by setup now event)
added_rests after setup now (Attach session subscriber groups moment) = (after setup now (with_request setup now Create (fresh setup session subscriber groups moment)), tt)
added_rests after setup now (Start session group moment) = tt
added_rests after setup now (Count session r) = tt
added_rests after setup now (Changes session trigger moment) = tt
added_rests after setup now (Tick moment) = tt
added_rests after setup now (Detach session abnormal moment) = tt
added_rests after setup now (Answered session number reply) = tt
added_rests after setup now (Attempt session peer) = tt
added_rests after setup now (NotSent session) = tt
added_rests after setup now (NoReply session) = tt
added_rests after setup now Restart = tt

rest_both : (setup : SmfSetup) (ss ts : List Session) → AreAtRest setup ss → AreAtRest setup ts → AreAtRest setup (ss ++ ts)
rest_both setup [] ts h k = k
rest_both setup (s ∷ ss) ts h k = (h.0, rest_both setup ss ts h.1 k)

rest_parts : (setup : SmfSetup) (ss ts : List Session) → AreAtRest setup (ss ++ ts) → AreAtRest setup ss × AreAtRest setup ts
rest_parts setup [] ts h = (tt, h)
rest_parts setup (s ∷ ss) ts h = let r = rest_parts setup ss ts h.1 in ((h.0, r.0), r.1)

step_rests : ((setup : SmfSetup) (now : ℕ) (s : Session) → IsAtRest setup (finished setup now s)) → (m : Machine) (event : SmfEvent) (answer : Result Seen SmfRefusal) → AreAtRest m.setup m.sessions → AreAtRest m.setup (after_answer m event answer).sessions
step_rests after m event (Ok New) rest =
    let now : ℕ = now_after m.moment event in
    rest_both m.setup (map (next_session m.setup now event) m.sessions) (added_by m.setup now event) (next_rests after m.setup now event m.sessions rest) (added_rests after m.setup now event)
step_rests after m event (Ok Known) rest = rest
step_rests after m event (Err e) rest = rest

-- so those of a plan of an event
pub planned_rest : ((setup : SmfSetup) (now : ℕ) (s : Session) → IsAtRest setup (finished setup now s)) → (plan : SmfPlan) (m : Machine) (event : SmfEvent) → IsPlanOf plan m event → AreAtRest m.setup m.sessions
    → AreAtRest m.setup (sessions_next plan.next m.sessions) × AreAtRest m.setup (added_in plan.added)
planned_rest after plan m event p rest =
    rest_parts m.setup (sessions_next plan.next m.sessions) (added_in plan.added)
    (subst (λ (x : Machine). AreAtRest m.setup x.sessions) (sym p.made) (step_rests after m event (answer_of m event) rest))
