-- What an attempt, the end of one and a restart do to the moves of a session.
use Rattle.std.proofs.Common.{◌≡◌, ℕ, ◌-◌, ◌==◌, Bool, true, false, cond, List, [], ◌∷◌, ◌++◌, refl, sym, ◌∙◌, ap, subst, append_assoc}
use Rattle.std.specs.Prelude.{◌↔◌, Option, Some, None, is_some, Result, Ok}
use Rattle.units.specs.declared.request.Operation.{Operation}
use Rattle.sessions.specs.Trace.{Move, flight}
use Rattle.sessions.specs.Trace.Move.{Attempts}
use Rattle.smf_model.specs.declared.setup.SmfSetup.{SmfSetup}
use Rattle.smf_model.specs.declared.session.Peer.{Peer}
use Rattle.smf_model.specs.declared.session.Loss.{Loss}
use Rattle.smf_model.specs.declared.session.Loss.TheVariants.{Unsent, Unanswered}
use Rattle.smf_model.specs.declared.session.Session.{Session}
use Rattle.smf_model.specs.declared.session.Machine.{Machine}
use Rattle.smf_model.specs.declared.event.SmfEvent.{SmfEvent}
use Rattle.smf_model.specs.declared.event.SmfEvent.TheVariants.{Attempt, NotSent, NoReply, Restart}
use Rattle.smf_model.specs.declared.refusal.Seen.{Seen}
use Rattle.smf_model.specs.declared.refusal.Seen.TheVariants.{New, Known}
use Rattle.smf_model.specs.declared.refusal.SmfRefusal.{SmfRefusal}
use Rattle.smf_model.specs.Settle.{settled}
use Rattle.smf_model.specs.Freeze.{waiting_count, next_operation, operation_in, freeze_due}
use Rattle.smf_model.specs.Sending.{attempted}
use Rattle.smf_model.specs.Machine.{machine_after, answer_of, now_after, session_of, touches, effect, on_session, attempt_answer, loss_answer}
use Rattle.smf_model.specs.Trace.{trace, settle_moves, freeze_moves_by, freeze_moves, drop_moves, finish_moves, loss_move, lost_moves, effect_moves, moves_of, moves_if}
use Rattle.smf_model.specs.Flights.{IsStep, Begins, Flies}
use Rattle.smf_model.proofs.Lifting.{FoundIs, found_is, is_new, With}
use Rattle.smf_model.proofs.Placed.{LeavesRequests, closes_leave, drops_leave}
use Rattle.smf_model.proofs.Losing.{KeptByLoss, lost_kept, still_asked}
use Rattle.smf_model.proofs.Traces.{StandsWhole, whole_run}

both_leave : (t u v : List Move) → LeavesRequests t u → LeavesRequests u v → LeavesRequests t v
both_leave t u v k l = record { requests = l.requests ∙ k.requests; phase = l.phase ∙ k.phase; unanswered = l.unanswered ∙ k.unanswered; flight = l.flight ∙ k.flight; unsent = l.unsent ∙ k.unsent; tried = l.tried ∙ k.tried }

none_frozen : (b : Bool) (rest : Option Operation) (setup : SmfSetup) (now : ℕ) (s : Session) → b ≡ true → freeze_moves_by setup now s (cond b None rest) ≡ []
none_frozen true rest setup now s e = refl
none_frozen false rest setup now s e = cc

-- while a request is unanswered, the end of an event leaves what was asked
asked_finish : (setup : SmfSetup) (now : ℕ) (t : List Move) (s : Session) → is_some s.request ≡ true → LeavesRequests t (finish_moves setup now s ++ t)
asked_finish setup now t s asked =
    let v : Session = settled setup now s in
    let w : Session = freeze_due setup now v in
    let c : List Move = settle_moves setup now s in
    let most : ℕ = waiting_count w.holdings - setup.held_max in
    let none : freeze_moves setup now v ≡ [] = none_frozen (is_some s.request) (operation_in setup v v.life) setup now v asked in
    let all : LeavesRequests t (drop_moves most w.holdings ++ (c ++ t)) = both_leave t (c ++ t) _ (closes_leave now _ t s.holdings) (drops_leave (c ++ t) w.holdings most) in
    subst (λ l. LeavesRequests t l) (sym (append_assoc (drop_moves most w.holdings) (freeze_moves setup now v ++ c) t ∙ ap (λ f. drop_moves most w.holdings ++ ((f ++ c) ++ t)) none)) all

landed_freeze : (next : Option Operation) (setup : SmfSetup) (now : ℕ) (t : List Move) (s : Session) → flight t ≡ None → flight (freeze_moves_by setup now s next ++ t) ≡ None
landed_freeze None setup now t s h = h
landed_freeze (Some o) setup now t s h = refl

-- the end of an event begins no attempt
landed_finish : (setup : SmfSetup) (now : ℕ) (t : List Move) (s : Session) → flight t ≡ None → flight (finish_moves setup now s ++ t) ≡ None
landed_finish setup now t s h =
    let v : Session = settled setup now s in
    let w : Session = freeze_due setup now v in
    let c : List Move = settle_moves setup now s in
    let f : List Move = freeze_moves setup now v in
    let closed : flight (c ++ t) ≡ None = (closes_leave now _ t s.holdings).flight ∙ h in
    let frozen : flight (f ++ (c ++ t)) ≡ None = landed_freeze (next_operation setup v) setup now (c ++ t) v closed in
    rw (append_assoc, append_assoc) ((drops_leave (f ++ (c ++ t)) w.holdings (waiting_count w.holdings - setup.held_max)).flight ∙ frozen)

landed_by_loss : KeptByLoss (λ t s. flight t ≡ None) (λ o. Unit {0})
landed_by_loss = record {
  sends = λ x t s latest flies unsent h. h;
  continues = λ t s h. h;
  breaks = λ now t s live h. (closes_leave now _ t s.holdings).flight ∙ h;
  gives_up = λ now t s landed unsent asked h. (closes_leave now _ t s.holdings).flight ∙ h;
}

one_landed : (loss : Loss) (t : List Move) → flight (loss_move loss ∷ t) ≡ None
one_landed Unsent t = refl
one_landed Unanswered t = refl

landed_lost : (setup : SmfSetup) (now : ℕ) (loss : Loss) (t : List Move) (s : Session) → flight (lost_moves now loss s ++ t) ≡ None
landed_lost setup now loss t s = lost_kept (λ u x. flight u ≡ None) (λ o. Unit {0}) landed_by_loss setup now loss t s tt (one_landed loss t)

-- what comes of a session that the event touches
touched_moves : (b : Bool) (P : List Move → Type 0) (xs ys t : List Move) → b ≡ true → P (xs ++ (ys ++ t)) → P (cond b (xs ++ ys) [] ++ t)
touched_moves true P xs ys t e h = rw append_assoc h
touched_moves false P xs ys t e h = cc

untouched_moves : (b : Bool) (P : List Move → Type 0) (xs t : List Move) → (b ≡ true → P (xs ++ t)) → (b ≡ false → P t) → P (cond b xs [] ++ t)
untouched_moves true P xs t on off = on refl
untouched_moves false P xs t on off = off refl

step_moves : (m : Machine) (number : ℕ) (event : SmfEvent) (t : List Move) (P : List Move → Type 0) → answer_of m event ≡ Ok New → P (moves_of m.setup (now_after m.moment event) number event (session_of number m.sessions) ++ t) → P (moves_if m number event (answer_of m event) ++ t)
step_moves m number event t P new h = subst (λ r. P (moves_if m number event r ++ t)) (sym new) h

-- an event that is new is for a session that is there
there : (answer : Session → Result Seen SmfRefusal) (o : Option Session) → on_session o answer ≡ Ok New → (s : Session) × (o ≡ Some s)
there answer None new = cc
there answer (Some s) new = (s, refl)

-- what a session's own event makes of its moves
own_moves : (event : SmfEvent) (m : Machine) (number : ℕ) (t : List Move) (s : Session) (P : List Move → Type 0) → answer_of m event ≡ Ok New → session_of number m.sessions ≡ Some s → touches event s ≡ true
    → P (finish_moves m.setup (now_after m.moment event) (effect m.setup (now_after m.moment event) event s) ++ (effect_moves (now_after m.moment event) event s ++ t)) → P (moves_if m number event (answer_of m event) ++ t)
own_moves event m number t s P new found on h =
    step_moves m number event t P new
    (subst (λ o. P (moves_of m.setup (now_after m.moment event) number event o ++ t)) (sym found)
    (touched_moves (touches event s) P (finish_moves m.setup (now_after m.moment event) (effect m.setup (now_after m.moment event) event s)) (effect_moves (now_after m.moment event) event s) t on h))

number_of : (m : Machine) (number : ℕ) (s : Session) → session_of number m.sessions ≡ Some s → (s.number == number) ≡ true
number_of m number s found = subst (FoundIs number) found (found_is number m.sessions)

-- an attempt begins

begins_at : (m : Machine) (session : ℕ) (peer : Peer) (t : List Move) → answer_of m (Attempt session peer) ≡ Ok New → Begins t (moves_if m session (Attempt session peer) (answer_of m (Attempt session peer)) ++ t)
begins_at m session peer t new =
    let it = there (attempt_answer m.moment m.sessions peer) (session_of session m.sessions) new in
    let s : Session = it.0 in
    let on : (s.number == session) ≡ true = number_of m session s it.1 in
    let asked : is_some s.request ≡ true = (is_new (Attempt session peer) m session s it.1 on new on).0 in
    own_moves (Attempt session peer) m session t s (Begins t) new it.1 on
    (let l : LeavesRequests (Attempts ∷ t) (finish_moves m.setup m.moment (attempted peer s) ++ (Attempts ∷ t)) = asked_finish m.setup m.moment (Attempts ∷ t) (attempted peer s) (still_asked s.request ∙ asked) in
    record { flight = l.flight; unanswered = l.unanswered })

pub begins : (setup : SmfSetup) (events : List SmfEvent) (session : ℕ) (peer : Peer) → IsStep setup events (Attempt session peer) → Begins (trace setup events session) (trace setup (Attempt session peer ∷ events) session)
begins setup events session peer new = begins_at (machine_after setup events) session peer (trace setup events session) new

-- it ends

unsent_at : (m : Machine) (session : ℕ) (t : List Move) → answer_of m (NotSent session) ≡ Ok New → flight (moves_if m session (NotSent session) (answer_of m (NotSent session)) ++ t) ≡ None
unsent_at m session t new =
    let it = there loss_answer (session_of session m.sessions) new in
    let s : Session = it.0 in
    own_moves (NotSent session) m session t s (λ l. flight l ≡ None) new it.1 (number_of m session s it.1)
    (landed_finish m.setup m.moment _ (effect m.setup m.moment (NotSent session) s) (landed_lost m.setup m.moment Unsent t s))

unanswered_at : (m : Machine) (session : ℕ) (t : List Move) → answer_of m (NoReply session) ≡ Ok New → flight (moves_if m session (NoReply session) (answer_of m (NoReply session)) ++ t) ≡ None
unanswered_at m session t new =
    let it = there loss_answer (session_of session m.sessions) new in
    let s : Session = it.0 in
    own_moves (NoReply session) m session t s (λ l. flight l ≡ None) new it.1 (number_of m session s it.1)
    (landed_finish m.setup m.moment _ (effect m.setup m.moment (NoReply session) s) (landed_lost m.setup m.moment Unanswered t s))

pub ends_unsent : (setup : SmfSetup) (events : List SmfEvent) (session : ℕ) → IsStep setup events (NotSent session) → flight (trace setup (NotSent session ∷ events) session) ≡ None
ends_unsent setup events session new = unsent_at (machine_after setup events) session (trace setup events session) new

pub ends_unanswered : (setup : SmfSetup) (events : List SmfEvent) (session : ℕ) → IsStep setup events (NoReply session) → flight (trace setup (NoReply session ∷ events) session) ≡ None
ends_unanswered setup events session new = unanswered_at (machine_after setup events) session (trace setup events session) new

-- a restart ends each

at_none : (b : Bool) (o : Option ℕ) → b ≡ is_some o → b ≡ false → o ≡ None
at_none true o e f = cc
at_none false None e f = refl
at_none false (Some n) e f = cc

restarted_at : (o : Option Session) (setup : SmfSetup) (now number : ℕ) (t : List Move) → With StandsWhole t o → flight (moves_of setup now number Restart o ++ t) ≡ None
restarted_at None setup now number t h = ap flight h
restarted_at (Some s) setup now number t h =
    untouched_moves s.sending.in_flight (λ l. flight l ≡ None) (finish_moves setup now (effect setup now Restart s) ++ effect_moves now Restart s) t
    (λ on. rw append_assoc (landed_finish setup now (effect_moves now Restart s ++ t) (effect setup now Restart s) (landed_lost setup now Unanswered t s)))
    (λ off. at_none s.sending.in_flight (flight t) h.2.flight off)

pub restarted : (setup : SmfSetup) (events : List SmfEvent) (session : ℕ) → IsStep setup events Restart → flight (trace setup (Restart ∷ events) session) ≡ None
restarted setup events session new =
    let m = machine_after setup events in
    step_moves m session Restart (trace setup events session) (λ l. flight l ≡ None) new
    (restarted_at (session_of session m.sessions) m.setup m.moment session (trace setup events session) (whole_run setup events session))

-- an end is new exactly where an attempt has none

some_of : (o : Option ℕ) → is_some o ≡ true → (n : ℕ) × (o ≡ Some n)
some_of None e = cc
some_of (Some n) e = (n, refl)

abbrev new_or_known : Bool → Result Seen SmfRefusal
new_or_known b = cond b (Ok New) (Ok Known)

is_set : (b : Bool) → new_or_known b ≡ Ok New → b ≡ true
is_set true e = refl
is_set false e = cc

lands_at : (o : Option Session) (t : List Move) → With StandsWhole t o → on_session o loss_answer ≡ Ok New ↔ Flies t
lands_at None t h = (λ new. cc, λ f. let e : flight t ≡ None = ap flight h in cc)
lands_at (Some s) t h = (λ new. some_of (flight t) (sym h.2.flight ∙ is_set s.sending.in_flight new), λ f. ap new_or_known (h.2.flight ∙ ap is_some f.1))

pub lands : (setup : SmfSetup) (events : List SmfEvent) (session : ℕ) → IsStep setup events (NotSent session) ↔ Flies (trace setup events session)
lands setup events session = lands_at (session_of session (machine_after setup events).sessions) (trace setup events session) (whole_run setup events session)

pub lands_too : (setup : SmfSetup) (events : List SmfEvent) (session : ℕ) → IsStep setup events (NoReply session) ↔ Flies (trace setup events session)
lands_too setup events session = lands_at (session_of session (machine_after setup events).sessions) (trace setup events session) (whole_run setup events session)
