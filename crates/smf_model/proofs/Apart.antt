-- Requests and sessions are apart, for every list of events.
use Rattle.std.proofs.Common.{◌≡◌, ℕ, ◌==◌, Bool, true, false, cond, List, [], ◌∷◌, ◌++◌, length, map, refl, sym, ◌∙◌, ap, subst}
use Rattle.std.specs.Prelude.{Option, Some, None, Result, Ok, Err}
use Rattle.std.proofs.lemmas.Bool.{eqb-true, eq-eqb}
use Rattle.units.specs.declared.request.Operation.TheVariants.{Create}
use Rattle.units.specs.declared.request.Request.{Request}
use Rattle.sessions.specs.Kept.{is_success, is_release, has_release}
use Rattle.sessions.specs.Trace.{Move, Phase, requests, is_released, phase, IsTrace}
use Rattle.sessions.specs.Trace.Move.{Closes, Drops, Freezes, Attempts, NotSent, NoReply, GivesUp, Answers}
use Rattle.sessions.specs.Trace.Phase.{Idle, Asked, Released, Unsent, Refused}
use Rattle.smf_model.specs.declared.setup.SmfSetup.{SmfSetup}
use Rattle.smf_model.specs.declared.session.Session.{Session}
use Rattle.smf_model.specs.declared.session.Machine.{Machine}
use Rattle.smf_model.specs.declared.event.SmfEvent.{SmfEvent}
use Rattle.smf_model.specs.declared.event.SmfEvent.TheVariants.{Attach, Start, Count, Change, Tick, Detach, Answered, Attempt, NotSent as CameUnsent, NoReply as CameNoReply, Restart}
use Rattle.smf_model.specs.declared.refusal.Seen.{Seen}
use Rattle.smf_model.specs.declared.refusal.Seen.TheVariants.{New, Known}
use Rattle.smf_model.specs.declared.refusal.SmfRefusal.{SmfRefusal}
use Rattle.smf_model.specs.Freeze.{with_request}
use Rattle.smf_model.specs.Machine.{finished, fresh, machine_after, answer_of, after_answer, attach_answer, now_after, next_session, session_of, added_by}
use Rattle.smf_model.specs.Trace.{trace}
use Rattle.smf_model.specs.Apart.{OnlyNewestReleases, RequestsAreApart, SessionsAreApart}
use Rattle.smf_model.proofs.Runs.{number-next}
use Rattle.smf_model.proofs.TraceLaws.{once, given_apart}
use Rattle.smf_model.proofs.Lifting.{next_found, after_found}
use Rattle.smf_model.proofs.Traces.{valid_run}

-- by the phase, which requests are Releases
abbrev ReleasesBy : Phase → List Request → Type 0
ReleasesBy Idle all = has_release all ≡ false
ReleasesBy Asked all = OnlyNewestReleases all
ReleasesBy Released all = OnlyNewestReleases all
ReleasesBy Unsent all = OnlyNewestReleases all
ReleasesBy Refused all = OnlyNewestReleases all

answered_release : (b : Bool) (all : List Request) → OnlyNewestReleases all → ReleasesBy (cond b (cond (is_released all) Released Idle) Refused) all
answered_release false all h = h
answered_release true [] h = refl
answered_release true (q ∷ earlier) h = at (is_release q.operation) refl
  where
    at : (d : Bool) → is_release q.operation ≡ d → ReleasesBy (cond d Released Idle) (q ∷ earlier)
    at true e = h
    at false e = ap (λ b. cond b true (has_release earlier)) e ∙ h

releases_by : (t : List Move) → IsTrace t → ReleasesBy (phase t) (requests t)
releases_by [] v = refl
releases_by (Closes c ∷ t) v = releases_by t v.1
releases_by (Drops d ∷ t) v = releases_by t v.1
releases_by (Attempts ∷ t) v = releases_by t v.1
releases_by (NotSent ∷ t) v = releases_by t v.1
releases_by (NoReply ∷ t) v = releases_by t v.1
releases_by (GivesUp ∷ t) v = subst (λ p. ReleasesBy p (requests t)) v.0.0 (releases_by t v.1)
releases_by (Freezes q ∷ t) v = subst (λ p. ReleasesBy p (requests t)) v.0.idle (releases_by t v.1)
releases_by (Answers p ∷ t) v = answered_release (is_success p) (requests t) (subst (λ x. ReleasesBy x (requests t)) v.0 (releases_by t v.1))

none_then : (all : List Request) → has_release all ≡ false → OnlyNewestReleases all
none_then [] h = tt
none_then (q ∷ earlier) h = at (is_release q.operation) h
  where
    at : (b : Bool) → cond b true (has_release earlier) ≡ false → has_release earlier ≡ false
    at true h = cc
    at false h = h

newest_by : (p : Phase) (all : List Request) → ReleasesBy p all → OnlyNewestReleases all
newest_by Idle all h = none_then all h
newest_by Asked all h = h
newest_by Released all h = h
newest_by Unsent all h = h
newest_by Refused all h = h

apart : (t : List Move) → IsTrace t → RequestsAreApart t
apart t v = record {
  once = λ lsn. once t lsn v;
  not_answered = λ lsn cause g. (given_apart t lsn cause v g).unanswered;
  in_none = λ lsn cause g. (given_apart t lsn cause v g).in_none;
  release = newest_by (phase t) (requests t) (releases_by t v);
}

pub requests_run : (setup : SmfSetup) (events : List SmfEvent) (number : ℕ) → RequestsAreApart (trace setup events number)
requests_run setup events number = apart (trace setup events number) (valid_run setup events number)

-- sessions

stays_none : (o new : Option Session) (f : Session → Session) → o ≡ None → new ≡ None → after_found f new o ≡ None
stays_none None new f e n = n
stays_none (Some s) new f e n = cc

-- where another session is added, its number is new
added_apart : (xs ys : List Session) (f : Session → Session) → ((s : Session) → (f s).number ≡ s.number) → ((s : Session) → (n : ℕ) → session_of n xs ≡ Some s → session_of n ys ≡ None) → SessionsAreApart ys → SessionsAreApart xs → SessionsAreApart (map f xs ++ ys)
added_apart [] ys f same new y x = y
added_apart (s ∷ xs) ys f same new y x = (
  next_found (f s).number f xs ys same ∙ stays_none (session_of (f s).number xs) (session_of (f s).number ys) f (ap (λ n. session_of n xs) (same s) ∙ x.0) (ap (λ n. session_of n ys) (same s) ∙ new s s.number (here s xs)),
  added_apart xs ys f same (λ k n found. new k n (later k n found)) y x.1,
)
  where
    here : (s : Session) (xs : List Session) → session_of s.number (s ∷ xs) ≡ Some s
    here s xs = ap (λ b. cond b (Some s) (session_of s.number xs)) (eq-eqb s.number s.number refl)

    later : (k : Session) (n : ℕ) → session_of n xs ≡ Some k → session_of n (s ∷ xs) ≡ Some k
    later k n found = at (s.number == n) refl
      where
        at : (b : Bool) → (s.number == n) ≡ b → cond b (Some s) (session_of n xs) ≡ Some k
        at false e = found
        at true e = absurd (let f : None ≡ Some k = sym x.0 ∙ ap (λ m. session_of m xs) (eqb-true s.number n e) ∙ found in cc)

attach_new : (o : Option Session) (groups : ℕ) → attach_answer o groups ≡ Ok New → o ≡ None
attach_new None groups e = refl
attach_new (Some s) groups e = cc

-- the session that an event adds
event_new : (event : SmfEvent) (m : Machine) (s : Session) (n : ℕ) → answer_of m event ≡ Ok New → session_of n m.sessions ≡ Some s → session_of n (added_by m.setup (now_after m.moment event) event) ≡ None
event_new (Attach session subscriber groups moment) m s n new found =
    let now : ℕ = now_after m.moment (Attach session subscriber groups moment) in
    let asked : Session = with_request m.setup now Create (fresh m.setup session subscriber groups moment) in
    let x : Session = finished m.setup now asked in
    ap (λ k. cond (k == n) (Some x) None) (number-next (Tick now) m.setup now asked) ∙ at x (session == n) refl
  where
    at : (x : Session) (b : Bool) → (session == n) ≡ b → cond b (Some x) None ≡ None
    at x false e = refl
    at x true e = absurd (
        let none : session_of session m.sessions ≡ None = attach_new (session_of session m.sessions) (length groups) new in
        let f : None ≡ Some s = sym none ∙ ap (λ k. session_of k m.sessions) (eqb-true session n e) ∙ found in cc)
event_new (Start session group moment) m s n new found = refl
event_new (Count session r) m s n new found = refl
event_new (Change session trigger moment) m s n new found = refl
event_new (Tick moment) m s n new found = refl
event_new (Detach session abnormal moment) m s n new found = refl
event_new (Answered session place reply) m s n new found = refl
event_new (Attempt session peer) m s n new found = refl
event_new (CameUnsent session) m s n new found = refl
event_new (CameNoReply session) m s n new found = refl
event_new Restart m s n new found = refl

added_alone : (event : SmfEvent) (setup : SmfSetup) (now : ℕ) → SessionsAreApart (added_by setup now event)
added_alone (Attach session subscriber groups moment) setup now = (refl, tt)
added_alone (Start session group moment) setup now = tt
added_alone (Count session r) setup now = tt
added_alone (Change session trigger moment) setup now = tt
added_alone (Tick moment) setup now = tt
added_alone (Detach session abnormal moment) setup now = tt
added_alone (Answered session place reply) setup now = tt
added_alone (Attempt session peer) setup now = tt
added_alone (CameUnsent session) setup now = tt
added_alone (CameNoReply session) setup now = tt
added_alone Restart setup now = tt

step_apart : (r : Result Seen SmfRefusal) (m : Machine) (event : SmfEvent) → answer_of m event ≡ r → SessionsAreApart m.sessions → SessionsAreApart (after_answer m event r).sessions
step_apart (Ok New) m event new h =
    let now : ℕ = now_after m.moment event in
    added_apart m.sessions (added_by m.setup now event) (next_session m.setup now event) (number-next event m.setup now) (λ s n found. event_new event m s n new found) (added_alone event m.setup now) h
step_apart (Ok Known) m event new h = h
step_apart (Err e) m event new h = h

pub sessions_run : (setup : SmfSetup) (events : List SmfEvent) → SessionsAreApart (machine_after setup events).sessions
sessions_run setup [] = tt
sessions_run setup (event ∷ events) = let m = machine_after setup events in step_apart (answer_of m event) m event refl (sessions_run setup events)
