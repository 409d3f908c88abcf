-- After any events a session stands by its moves.
use Rattle.std.proofs.Common.{◌≡◌, ℕ, ◌==◌, Bool, true, false, cond, List, [], ◌∷◌, ◌++◌, refl, sym, ◌∙◌, ap, subst, arith, append_assoc, append-nil}
use Rattle.std.specs.Prelude.{Option, Some, None, is_some, Result, Ok, Err}
use Rattle.std.specs.List.{AllByRecursion}
use Rattle.std.proofs.lemmas.Bool.{and_parts}
use Rattle.units.specs.declared.request.Operation.TheVariants.{Create}
use Rattle.sessions.specs.Trace.{Move, IsTrace}
use Rattle.sessions.specs.Trace.Move.{Freezes}
use Rattle.smf_model.specs.declared.setup.SmfSetup.{SmfSetup}
use Rattle.smf_model.specs.declared.session.Holding.{Holding}
use Rattle.smf_model.specs.declared.session.Loss.TheVariants.{Unsent, Unanswered}
use Rattle.smf_model.specs.declared.session.Session.{Session}
use Rattle.smf_model.specs.declared.session.Machine.{Machine}
use Rattle.smf_model.specs.declared.event.SmfEvent.{SmfEvent}
use Rattle.smf_model.specs.declared.event.SmfEvent.TheVariants.{Attach, Start, Count, Change, Tick, Detach, Answered, Attempt, NotSent, NoReply, Restart}
use Rattle.smf_model.specs.declared.refusal.Seen.{Seen}
use Rattle.smf_model.specs.declared.refusal.Seen.TheVariants.{New, Known}
use Rattle.smf_model.specs.declared.refusal.SmfRefusal.{SmfRefusal}
use Rattle.smf_model.specs.Settle.{settled}
use Rattle.smf_model.specs.Freeze.{request_of, with_request}
use Rattle.smf_model.specs.Traffic.{started, changed, closes_before, horizon_in}
use Rattle.smf_model.specs.Settle.{entry_of, open_of}
use Rattle.smf_model.specs.Machine.{machine_after, answer_of, session_of, touches, effect, finished, fresh, added_by, is_live}
use Rattle.smf_model.specs.Trace.{trace, moves_of, moves_if, added_moves, finish_moves, effect_moves}
use Rattle.smf_model.specs.History.{brought, history}
use Rattle.smf_model.specs.Sent.{IsSentAsMoved}
use Rattle.smf_model.specs.Places.{IsAsMoved, StandsAsMoved}
use Rattle.smf_model.proofs.Runs.{number-next}
use Rattle.smf_model.proofs.Lifting.{IsNew, With, IsKept, over_all}
use Rattle.smf_model.proofs.Placed.{IsAt}
use Rattle.smf_model.proofs.Entries.{HasEntries, settled_entries, asking_entries, finished_entries, answered_entries, detached_entries, lost_entries, attempted_entries, changed_entries, counted_entries, started_entries, apart_all}
use Rattle.smf_model.proofs.Held.{Stands, same_stands, any_stands, asking_stands, finished_stands}
use Rattle.smf_model.proofs.Sends.{Sends, asking_sends, finished_sends, effect_sends}
use Rattle.smf_model.proofs.Losses.{attempted_stands, lost_stands}
use Rattle.smf_model.proofs.Effects.{IsCounted, is_counted, counted_stands, detached_stands, answered_stands}

effect_entries : (event : SmfEvent) (setup : SmfSetup) (now : ℕ) (s : Session) → touches event s ≡ true → IsNew event s → HasEntries s → HasEntries (effect setup now event s)
effect_entries (Attach session subscriber groups moment) setup now s on new h = h
effect_entries (Start session group moment) setup now s on new h = started_entries group s (started group moment s) refl refl h
effect_entries (Count session r) setup now s on new h =
    let is : IsCounted r s = is_counted r s (new on) in
    counted_entries r (closes_before (horizon_in (entry_of r.group s.groups)) r (open_of r.group s.holdings)) s is.entry is.found h
effect_entries (Change session trigger moment) setup now s on new h = changed_entries trigger moment s (changed trigger moment s) refl refl h
effect_entries (Tick moment) setup now s on new h = h
effect_entries (Detach session abnormal moment) setup now s on new h = detached_entries abnormal moment s h
effect_entries (Answered session number reply) setup now s on new h = answered_entries now reply s.request s h
effect_entries (Attempt session peer) setup now s on new h = attempted_entries peer s h
effect_entries (NotSent session) setup now s on new h = lost_entries setup now Unsent s h
effect_entries (NoReply session) setup now s on new h = lost_entries setup now Unanswered s h
effect_entries Restart setup now s on new h = lost_entries setup now Unanswered s h

effect_stands : (event : SmfEvent) (setup : SmfSetup) (now : ℕ) (t : List Move) (s : Session) → touches event s ≡ true → IsNew event s → Sends t s → Stands t s → Stands (effect_moves now event s ++ t) (effect setup now event s)
effect_stands (Attach session subscriber groups moment) setup now t s on new w h = h
effect_stands (Start session group moment) setup now t s on new w h = same_stands t s (started group moment s) refl refl refl (λ e. e) h
effect_stands (Count session r) setup now t s on new w h = counted_stands r t s (is_counted r s (new on)).live h
effect_stands (Change session trigger moment) setup now t s on new w h = any_stands moment trigger t s (changed trigger moment s) refl refl refl (λ e. e) h
effect_stands (Tick moment) setup now t s on new w h = h
effect_stands (Detach session abnormal moment) setup now t s on new w h = detached_stands abnormal moment t s (and_parts (s.number == session) (is_live s.life) on).1 h
effect_stands (Answered session number reply) setup now t s on new w h = answered_stands now number reply t s (new on) h
effect_stands (Attempt session peer) setup now t s on new w h = attempted_stands peer t s (new on).0 (new on).1 w h
effect_stands (NotSent session) setup now t s on new w h = lost_stands setup now Unsent t s (new on) (h, w)
effect_stands (NoReply session) setup now t s on new w h = lost_stands setup now Unanswered t s (new on) (h, w)
effect_stands Restart setup now t s on new w h = lost_stands setup now Unanswered t s on (h, w)

-- a session with its entries, and so far as its sending is, stands by its moves
abbrev pub StandsWhole : List Move → Session → Type 0
StandsWhole t s = Stands t s × HasEntries s × Sends t s

finished_whole : (setup : SmfSetup) (now : ℕ) (t : List Move) (s : Session) → StandsWhole t s → StandsWhole (finish_moves setup now s ++ t) (finished setup now s)
finished_whole setup now t s h =
    let settled_too : HasEntries (settled setup now s) = settled_entries setup now s h.1 in
    (finished_stands setup now t s settled_too.apart settled_too.entered h.0, finished_entries setup now s h.1, finished_sends setup now t s h.2)

pub effect_whole : (event : SmfEvent) (setup : SmfSetup) (now : ℕ) (t : List Move) (s : Session) → touches event s ≡ true → IsNew event s → StandsWhole t s → StandsWhole (effect_moves now event s ++ t) (effect setup now event s)
effect_whole event setup now t s on new h = (effect_stands event setup now t s on new h.2 h.0, effect_entries event setup now s on new h.1, effect_sends event setup now t s on new h.2)

next_by : (b : Bool) (event : SmfEvent) (setup : SmfSetup) (now : ℕ) (t : List Move) (s : Session) → touches event s ≡ b → IsNew event s → StandsWhole t s
    → StandsWhole (cond b (finish_moves setup now (effect setup now event s) ++ effect_moves now event s) [] ++ t) (cond b (finished setup now (effect setup now event s)) s)
next_by true event setup now t s on new h =
    subst (λ l. StandsWhole l (finished setup now (effect setup now event s))) (sym (append_assoc (finish_moves setup now (effect setup now event s)) (effect_moves now event s) t))
    (finished_whole setup now (effect_moves now event s ++ t) (effect setup now event s) (effect_whole event setup now t s on new h))
next_by false event setup now t s on new h = h

pub fresh_whole : (setup : SmfSetup) (number : ℕ) (subscriber groups : List ℕ) (moment : ℕ) → StandsWhole [] (fresh setup number subscriber groups moment)
fresh_whole setup number subscriber groups moment = (
  record { valid = tt; numbered = tt; each = tt; beyond = λ lsn l. refl; count = refl; unanswered = refl; asked = λ e. cc; idle = λ e on. refl },
  record { apart = apart_all groups [] (λ g. omega arith); entered = tt },
  record { flight = refl; unsent = λ e. cc; asked = λ e. cc; tried = λ e. cc; mark = λ q is. cc },
)

pub created_whole : (setup : SmfSetup) (now number : ℕ) (subscriber groups : List ℕ) (moment : ℕ)
    → StandsWhole (finish_moves setup now (with_request setup now Create (fresh setup number subscriber groups moment)) ++ Freezes (request_of setup now (fresh setup number subscriber groups moment) Create) ∷ []) (finished setup now (with_request setup now Create (fresh setup number subscriber groups moment)))
created_whole setup now number subscriber groups moment =
    let s : Session = fresh setup number subscriber groups moment in
    let h : StandsWhole [] s = fresh_whole setup number subscriber groups moment in
    finished_whole setup now (Freezes (request_of setup now s Create) ∷ []) (with_request setup now Create s)
    (asking_stands setup now Create [] s refl h.1.apart h.1.entered h.0, asking_entries setup now Create s h.1, asking_sends setup now Create [] s)

attached_at : (b : Bool) (m : List Move) (s : Session) → StandsWhole m s → With StandsWhole (cond b m [] ++ []) (cond b (Some s) None)
attached_at true m s h = subst (λ l. StandsWhole l s) (sym (append-nil m)) h
attached_at false m s h = refl

attached : (setup : SmfSetup) (now number : ℕ) (event : SmfEvent) → With StandsWhole (added_moves setup now number event ++ []) (session_of number (added_by setup now event))
attached setup now number (Attach session subscriber groups moment) =
    let s : Session = with_request setup now Create (fresh setup session subscriber groups moment) in
    let P : Bool → Type 0 = λ b. With StandsWhole (added_moves setup now number (Attach session subscriber groups moment) ++ []) (cond b (Some (finished setup now s)) None) in
    subst P (ap (λ n. n == number) (sym (number-next (Tick now) setup now s)))
    (attached_at (session == number) _ _ (created_whole setup now session subscriber groups moment))
attached setup now number (Start session group moment) = refl
attached setup now number (Count session r) = refl
attached setup now number (Change session trigger moment) = refl
attached setup now number (Tick moment) = refl
attached setup now number (Detach session abnormal moment) = refl
attached setup now number (Answered session place reply) = refl
attached setup now number (Attempt session peer) = refl
attached setup now number (NotSent session) = refl
attached setup now number (NoReply session) = refl
attached setup now number Restart = refl

pub kept : (setup : SmfSetup) → IsKept setup StandsWhole moves_of
kept setup = record {
  next = λ now number event s t is new h. next_by (touches event s) event setup now t s refl new h;
  added = λ now number event. attached setup now number event;
}

-- the trace is what events bring in moves
brought_moves : (r : Result Seen SmfRefusal) (m : Machine) (number : ℕ) (event : SmfEvent) → moves_if m number event r ≡ brought moves_of m number event r
brought_moves (Ok New) m number event = refl
brought_moves (Ok Known) m number event = refl
brought_moves (Err e) m number event = refl

pub trace_is : (setup : SmfSetup) (events : List SmfEvent) (number : ℕ) → trace setup events number ≡ history moves_of setup events number
trace_is setup [] number = refl
trace_is setup (event ∷ events) number =
    let m = machine_after setup events in
    ap (λ l. l ++ trace setup events number) (brought_moves (answer_of m event) m number event)
    ∙ ap (λ l. brought moves_of m number event (answer_of m event) ++ l) (trace_is setup events number)

pub whole_run : (setup : SmfSetup) (events : List SmfEvent) (number : ℕ) → With StandsWhole (trace setup events number) (session_of number (machine_after setup events).sessions)
whole_run setup events number =
    subst (λ l. With StandsWhole l (session_of number (machine_after setup events).sessions)) (sym (trace_is setup events number)) (over_all setup StandsWhole moves_of (kept setup) events number)

valid_with : (t : List Move) (o : Option Session) → With StandsWhole t o → IsTrace t
valid_with t None h = subst IsTrace (sym h) tt
valid_with t (Some s) h = h.0.valid

pub valid_run : (setup : SmfSetup) (events : List SmfEvent) (number : ℕ) → IsTrace (trace setup events number)
valid_run setup events number = valid_with (trace setup events number) (session_of number (machine_after setup events).sessions) (whole_run setup events number)

as_moved : (t : List Move) (hs : List Holding) → AllByRecursion (IsAt t) hs → AllByRecursion (IsAsMoved t) hs
as_moved t [] a = tt
as_moved t (h ∷ hs) a = (record { place = a.0.place; closed = a.0.closed }, as_moved t hs a.1)

moved_with : (t : List Move) (o : Option Session) → With StandsWhole t o → StandsAsMoved t o
moved_with t None h = h
moved_with t (Some s) h = record { numbered = h.0.numbered; each = as_moved t s.holdings h.0.each }

pub moved_run : (setup : SmfSetup) (events : List SmfEvent) (number : ℕ) → StandsAsMoved (trace setup events number) (session_of number (machine_after setup events).sessions)
moved_run setup events number = moved_with (trace setup events number) (session_of number (machine_after setup events).sessions) (whole_run setup events number)

-- the sending of the unanswered request

sent_with : (t : List Move) (o : Option Session) → With StandsWhole t o → IsSentAsMoved t o
sent_with t None h = h
sent_with t (Some s) h = record {
  request = h.0.unanswered;
  mark = λ q is. h.2.mark q is ∙ h.2.tried (ap is_some is);
  in_flight = h.2.flight;
  unsent = h.2.unsent;
}

pub sent_run : (setup : SmfSetup) (events : List SmfEvent) (number : ℕ) → IsSentAsMoved (trace setup events number) (session_of number (machine_after setup events).sessions)
sent_run setup events number = sent_with (trace setup events number) (session_of number (machine_after setup events).sessions) (whole_run setup events number)
