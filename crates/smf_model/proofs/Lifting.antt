-- A law of one session over every list of events, from what each new event does to the session.
use Rattle.std.proofs.Common.{◌≡◌, ℕ, ◌==◌, List, [], ◌∷◌, ◌++◌, map, refl, sym, ◌∙◌, ap, subst, Bool, true, false, cond}
use Rattle.std.specs.Prelude.{◌&&◌, not, Option, Some, None, is_some, Result, Ok, Err}
use Rattle.std.proofs.lemmas.Bool.{eqb-true, and_parts}
use Rattle.smf_model.specs.declared.setup.SmfSetup.{SmfSetup}
use Rattle.smf_model.specs.declared.session.Peer.{Peer}
use Rattle.smf_model.specs.declared.session.Session.{Session}
use Rattle.smf_model.specs.declared.session.Machine.{Machine}
use Rattle.smf_model.specs.declared.event.SmfEvent.{SmfEvent}
use Rattle.smf_model.specs.declared.event.SmfEvent.TheVariants.{Attach, Start, Count, Change, Tick, Detach, Answered, Attempt, NotSent, NoReply, Restart}
use Rattle.smf_model.specs.declared.refusal.Seen.{Seen}
use Rattle.smf_model.specs.declared.refusal.Seen.TheVariants.{New, Known}
use Rattle.smf_model.specs.declared.refusal.SmfRefusal.{SmfRefusal}
use Rattle.smf_model.specs.Machine.{machine_after, answer_of, after_answer, now_after, next_session, session_of, added_by, on_session, start_answer, count_answer, change_answer, detach_answer, reply_answer, attempt_answer, loss_answer}
use Rattle.smf_model.specs.Sending.{is_past, may_send, send_of, is_send}
use Rattle.smf_model.specs.History.{Brings, brought, history}
use Rattle.smf_model.proofs.Runs.{number-next}

-- the session that is found has the number
abbrev pub FoundIs : ℕ → Option Session → Type 0
FoundIs number None = Unit {0}
FoundIs number (Some s) = (s.number == number) ≡ true

pub found_is : (number : ℕ) (xs : List Session) → FoundIs number (session_of number xs)
found_is number [] = tt
found_is number (x ∷ xs) = at (x.number == number) refl (found_is number xs)
  where
    at : (b : Bool) → (x.number == number) ≡ b → FoundIs number (session_of number xs) → FoundIs number (cond b (Some x) (session_of number xs))
    at true e h = e
    at false e h = h

-- what is found after each session took its step
abbrev pub after_found : (Session → Session) → Option Session → Option Session → Option Session
after_found f new None = new
after_found f new (Some s) = Some (f s)

pub next_found : (number : ℕ) (f : Session → Session) (xs ys : List Session) → ((s : Session) → (f s).number ≡ s.number) → session_of number (map f xs ++ ys) ≡ after_found f (session_of number ys) (session_of number xs)
next_found number f [] ys same = refl
next_found number f (x ∷ xs) ys same =
    ap (λ n. cond (n == number) (Some (f x)) (session_of number (map f xs ++ ys))) (same x) ∙ at (x.number == number) (next_found number f xs ys same)
  where
    at : (b : Bool) → session_of number (map f xs ++ ys) ≡ after_found f (session_of number ys) (session_of number xs)
        → cond b (Some (f x)) (session_of number (map f xs ++ ys)) ≡ after_found f (session_of number ys) (cond b (Some x) (session_of number xs))
    at true h = refl
    at false h = h

-- the event is answered New at the session that it is for
abbrev pub IsNew : SmfEvent → Session → Type 0
IsNew (Attach session subscriber groups moment) s = Unit {0}
IsNew (Start session group moment) s = (s.number == session) ≡ true → start_answer group moment s ≡ Ok New
IsNew (Count session r) s = (s.number == session) ≡ true → count_answer r s ≡ Ok New
IsNew (Change session trigger moment) s = (s.number == session) ≡ true → change_answer moment s ≡ Ok New
IsNew (Tick moment) s = Unit {0}
IsNew (Detach session abnormal moment) s = (s.number == session) ≡ true → detach_answer moment s ≡ Ok New
IsNew (Answered session number reply) s = (s.number == session) ≡ true → reply_answer number reply s ≡ Ok New
IsNew (Attempt session peer) s = (s.number == session) ≡ true → (is_some s.request ≡ true) × (s.sending.in_flight ≡ false)
IsNew (NotSent session) s = (s.number == session) ≡ true → s.sending.in_flight ≡ true
IsNew (NoReply session) s = (s.number == session) ≡ true → s.sending.in_flight ≡ true
IsNew Restart s = Unit {0}

own_answer : (number session : ℕ) (xs : List Session) (s : Session) (answer : Session → Result Seen SmfRefusal) → session_of number xs ≡ Some s → (s.number == number) ≡ true
    → on_session (session_of session xs) answer ≡ Ok New → (s.number == session) ≡ true → answer s ≡ Ok New
own_answer number session xs s answer found is new on =
    let here : number ≡ session = sym (eqb-true s.number number is) ∙ eqb-true s.number session on in
    ap (λ o. on_session o answer) (sym found) ∙ ap (λ n. on_session (session_of n xs) answer) here ∙ new

abbrev new_or_known : Bool → Result Seen SmfRefusal
new_or_known b = cond b (Ok New) (Ok Known)

answered_new : (b : Bool) → new_or_known b ≡ Ok New → b ≡ true
answered_new true e = refl
answered_new false e = cc

grounded : (b : Bool) → not b ≡ true → b ≡ false
grounded true e = cc
grounded false e = refl

-- an attempt that is new is of an unanswered request that has none in flight
may_attempt : (now : ℕ) (sessions : List Session) (peer : Peer) (s : Session) → attempt_answer now sessions peer s ≡ Ok New → (is_some s.request ≡ true) × (s.sending.in_flight ≡ false)
may_attempt now sessions peer s new =
    let may = and_parts (may_send now s) (is_send s.number peer (send_of now sessions)) (answered_new (may_send now s && is_send s.number peer (send_of now sessions)) new) in
    let asks = and_parts (is_some s.request) (not s.sending.in_flight && is_past now s.sending.wait) may.0 in
    (asks.0, grounded s.sending.in_flight (and_parts (not s.sending.in_flight) (is_past now s.sending.wait) asks.1).0)

may_lose : (s : Session) → loss_answer s ≡ Ok New → s.sending.in_flight ≡ true
may_lose s new = answered_new s.sending.in_flight new

pub is_new : (event : SmfEvent) (m : Machine) (number : ℕ) (s : Session) → session_of number m.sessions ≡ Some s → (s.number == number) ≡ true → answer_of m event ≡ Ok New → IsNew event s
is_new (Attach session subscriber groups moment) m number s found is new = tt
is_new (Start session group moment) m number s found is new = own_answer number session m.sessions s (start_answer group moment) found is new
is_new (Count session r) m number s found is new = own_answer number session m.sessions s (count_answer r) found is new
is_new (Change session trigger moment) m number s found is new = own_answer number session m.sessions s (change_answer moment) found is new
is_new (Tick moment) m number s found is new = tt
is_new (Detach session abnormal moment) m number s found is new = own_answer number session m.sessions s (detach_answer moment) found is new
is_new (Answered session place reply) m number s found is new = own_answer number session m.sessions s (reply_answer place reply) found is new
is_new (Attempt session peer) m number s found is new = λ on. may_attempt m.moment m.sessions peer s (own_answer number session m.sessions s (attempt_answer m.moment m.sessions peer) found is new on)
is_new (NotSent session) m number s found is new = λ on. may_lose s (own_answer number session m.sessions s loss_answer found is new on)
is_new (NoReply session) m number s found is new = λ on. may_lose s (own_answer number session m.sessions s loss_answer found is new on)
is_new Restart m number s found is new = tt

-- a session that is not there has no history
abbrev pub WithBoth : {X Y : Type 0} → (List X → List Y → Session → Type 0) → List X → List Y → Option Session → Type 0
WithBoth P t u None = (t ≡ []) × (u ≡ [])
WithBoth P t u (Some s) = P t u s

-- each new event keeps it of two histories, and a new session has it
pub record AreKept {X Y : Type 0} (setup : SmfSetup) (P : List X → List Y → Session → Type 0) (brings : Brings X) (also : Brings Y) : Type 0 where
  pub next : (now number : ℕ) (event : SmfEvent) (s : Session) (t : List X) (u : List Y) → (s.number == number) ≡ true → IsNew event s → P t u s
      → P (brings setup now number event (Some s) ++ t) (also setup now number event (Some s) ++ u) (next_session setup now event s)
  pub added : (now number : ℕ) (event : SmfEvent) → WithBoth P (brings setup now number event None ++ []) (also setup now number event None ++ []) (session_of number (added_by setup now event))

step_session : {X Y : Type 0} (setup : SmfSetup) (P : List X → List Y → Session → Type 0) (brings : Brings X) (also : Brings Y) → AreKept setup P brings also → (now number : ℕ) (event : SmfEvent) (t : List X) (u : List Y) (o : Option Session) → FoundIs number o
    → ((s : Session) → o ≡ Some s → IsNew event s) → WithBoth P t u o
    → WithBoth P (brings setup now number event o ++ t) (also setup now number event o ++ u) (after_found (next_session setup now event) (session_of number (added_by setup now event)) o)
step_session setup P brings also kept now number event t u None is new h =
    subst (λ l. WithBoth P (brings setup now number event None ++ l) (also setup now number event None ++ u) (session_of number (added_by setup now event))) (sym h.0)
    (subst (λ l. WithBoth P (brings setup now number event None ++ []) (also setup now number event None ++ l) (session_of number (added_by setup now event))) (sym h.1) (kept.added now number event))
step_session setup P brings also kept now number event t u (Some s) is new h = kept.next now number event s t u is (new s refl) h

pub setup-after : (r : Result Seen SmfRefusal) (m : Machine) (event : SmfEvent) → (after_answer m event r).setup ≡ m.setup
setup-after (Ok New) m event = refl
setup-after (Ok Known) m event = refl
setup-after (Err e) m event = refl

pub same_setup : (setup : SmfSetup) (events : List SmfEvent) → (machine_after setup events).setup ≡ setup
same_setup setup [] = refl
same_setup setup (event ∷ events) = setup-after (answer_of (machine_after setup events) event) (machine_after setup events) event ∙ same_setup setup events

step_answer : {X Y : Type 0} (setup : SmfSetup) (P : List X → List Y → Session → Type 0) (brings : Brings X) (also : Brings Y) → AreKept setup P brings also → (r : Result Seen SmfRefusal) (m : Machine) (event : SmfEvent) (number : ℕ) (t : List X) (u : List Y)
    → m.setup ≡ setup → answer_of m event ≡ r → WithBoth P t u (session_of number m.sessions)
    → WithBoth P (brought brings m number event r ++ t) (brought also m number event r ++ u) (session_of number (after_answer m event r).sessions)
step_answer setup P brings also kept (Ok New) m event number t u same new h =
    let now : ℕ = now_after m.moment event in
    let found : Option Session = session_of number m.sessions in
    subst (λ o. WithBoth P (brings m.setup now number event found ++ t) (also m.setup now number event found ++ u) o)
    (sym (next_found number (next_session m.setup now event) m.sessions (added_by m.setup now event) (number-next event m.setup now)))
    (subst (λ x. WithBoth P (brings x now number event found ++ t) (also x now number event found ++ u) (after_found (next_session x now event) (session_of number (added_by x now event)) found)) (sym same)
    (step_session setup P brings also kept now number event t u found (found_is number m.sessions)
    (λ s here. is_new event m number s here (subst (FoundIs number) here (found_is number m.sessions)) new) h))
step_answer setup P brings also kept (Ok Known) m event number t u same new h = h
step_answer setup P brings also kept (Err e) m event number t u same new h = h

pub over_both : {X Y : Type 0} (setup : SmfSetup) (P : List X → List Y → Session → Type 0) (brings : Brings X) (also : Brings Y) → AreKept setup P brings also → (events : List SmfEvent) (number : ℕ)
    → WithBoth P (history brings setup events number) (history also setup events number) (session_of number (machine_after setup events).sessions)
over_both setup P brings also kept [] number = (refl, refl)
over_both setup P brings also kept (event ∷ events) number =
    let m = machine_after setup events in
    step_answer setup P brings also kept (answer_of m event) m event number (history brings setup events number) (history also setup events number) (same_setup setup events) refl (over_both setup P brings also kept events number)

-- so of one history
abbrev pub With : {X : Type 0} → (List X → Session → Type 0) → List X → Option Session → Type 0
With P t None = t ≡ []
With P t (Some s) = P t s

pub record IsKept {X : Type 0} (setup : SmfSetup) (P : List X → Session → Type 0) (brings : Brings X) : Type 0 where
  pub next : (now number : ℕ) (event : SmfEvent) (s : Session) (t : List X) → (s.number == number) ≡ true → IsNew event s → P t s → P (brings setup now number event (Some s) ++ t) (next_session setup now event s)
  pub added : (now number : ℕ) (event : SmfEvent) → With P (brings setup now number event None ++ []) (session_of number (added_by setup now event))

abbrev pub nothing : Brings ℕ
nothing setup now number event s = []

abbrev Alone : {X : Type 0} → (List X → Session → Type 0) → List X → List ℕ → Session → Type 0
Alone P t u s = P t s

one_of : {X : Type 0} (P : List X → Session → Type 0) (t : List X) (u : List ℕ) (o : Option Session) → WithBoth (Alone P) t u o → With P t o
one_of P t u None h = h.0
one_of P t u (Some s) h = h

both_of : {X : Type 0} (P : List X → Session → Type 0) (t : List X) (o : Option Session) → With P t o → WithBoth (Alone P) t [] o
both_of P t None h = (h, refl)
both_of P t (Some s) h = h

pub over_all : {X : Type 0} (setup : SmfSetup) (P : List X → Session → Type 0) (brings : Brings X) → IsKept setup P brings → (events : List SmfEvent) (number : ℕ)
    → With P (history brings setup events number) (session_of number (machine_after setup events).sessions)
over_all setup P brings kept events number =
    one_of P (history brings setup events number) (history nothing setup events number) (session_of number (machine_after setup events).sessions)
    (over_both setup (Alone P) brings nothing (record {
      next = λ now number event s t u is new h. kept.next now number event s t is new h;
      added = λ now number event. both_of P (brings setup now number event None ++ []) (session_of number (added_by setup now event)) (kept.added now number event);
    }) events number)
