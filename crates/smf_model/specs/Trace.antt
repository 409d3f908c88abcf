-- What events do to one session, as moves, the newest event's first; within one event its closes stand in the order of their containers (this product's own).
use Rattle.std.specs.Prelude.{◌≡◌, ℕ, ◌+◌, ◌-◌, ◌==◌, ◌&&◌, nat_lt, Bool, true, false, if◌then◌else◌, Option, Some, None, is_some, List, [], ◌∷◌, ◌++◌, length, Result, Ok, Err}
use Rattle.units.specs.declared.trigger.TriggerType.{TriggerType}
use Rattle.units.specs.declared.trigger.TriggerType.TheVariants.{Final, AbnormalRelease}
use Rattle.units.specs.declared.request.Operation.{Operation}
use Rattle.units.specs.declared.request.Operation.TheVariants.{Create}
use Rattle.units.specs.declared.request.Request.{Request}
use Rattle.units.specs.declared.reply.Reply.{Reply}
use Rattle.units.specs.declared.reply.Reply.TheVariants.{Created, Updated, Released, Refused}
use Rattle.sessions.specs.Kept.{is_success}
use Rattle.sessions.specs.Trace.{Move, requests}
use Rattle.sessions.specs.Trace.Move.{Closes, Drops, Freezes, Attempts, NotSent as EndsUnsent, NoReply as EndsUnanswered, GivesUp, Answers}
use Rattle.smf_model.specs.declared.setup.SmfSetup.{SmfSetup}
use Rattle.smf_model.specs.declared.session.Life.{Life}
use Rattle.smf_model.specs.declared.session.Life.TheVariants.{Live, Ending, Aborting, Ended}
use Rattle.smf_model.specs.declared.session.Loss.{Loss}
use Rattle.smf_model.specs.declared.session.Loss.TheVariants.{Unsent, Unanswered}
use Rattle.smf_model.specs.declared.session.Holding.{Holding}
use Rattle.smf_model.specs.declared.session.Session.{Session}
use Rattle.smf_model.specs.declared.session.Machine.{Machine}
use Rattle.smf_model.specs.declared.event.SmfEvent.{SmfEvent}
use Rattle.smf_model.specs.declared.event.SmfEvent.TheVariants.{Attach, Start, Count, Change, Tick, Detach, Answered, Attempt, NotSent, NoReply, Restart}
use Rattle.smf_model.specs.declared.refusal.Seen.{Seen}
use Rattle.smf_model.specs.declared.refusal.Seen.TheVariants.{New, Known}
use Rattle.smf_model.specs.declared.refusal.SmfRefusal.{SmfRefusal}
use Rattle.smf_model.specs.Settle.{is_open, is_waiting, is_open_of, open_of, entry_of, due_at, settled}
use Rattle.smf_model.specs.Freeze.{waiting_count, next_operation, request_of, freeze_due, with_request}
use Rattle.smf_model.specs.Sending.{unmarked}
use Rattle.smf_model.specs.Traffic.{horizon_in, closes_before}
use Rattle.smf_model.specs.Rounds.{is_continue, with_loss, is_last}
use Rattle.smf_model.specs.Machine.{is_ended, session_of, answer_of, now_after, touches, effect, fresh, machine_after}

-- the containers that a part of an event closes: what closes each, where something does
abbrev pub close_moves : ℕ → Holding → Option TriggerType → List Move
close_moves moment h None = []
close_moves moment h (Some trigger) = Closes (record { container = h.container; trigger = trigger; moment = moment }) ∷ []

-- container by container
abbrev pub closes_of : ℕ → (Holding → Option TriggerType) → List Holding → List Move
closes_of moment closing [] = []
closes_of moment closing (h ∷ holdings) = close_moves moment h (closing h) ++ closes_of moment closing holdings

-- every open one
abbrev pub closes_all : ℕ → TriggerType → Session → List Move
closes_all moment trigger s = closes_of moment (λ h. if is_open h.place then Some trigger else None) s.holdings

-- those of groups with a due trigger
abbrev pub settle_moves : SmfSetup → ℕ → Session → List Move
settle_moves setup now s = closes_of now (λ h. if is_open h.place then due_at setup now s (entry_of h.container.group s.groups) else None) s.holdings

-- the request that is frozen
abbrev pub freeze_moves_by : SmfSetup → ℕ → Session → Option Operation → List Move
freeze_moves_by setup now s None = []
freeze_moves_by setup now s (Some operation) = Freezes (request_of setup now s operation) ∷ []

-- the request that is due is frozen
abbrev pub freeze_moves : SmfSetup → ℕ → Session → List Move
freeze_moves setup now s = freeze_moves_by setup now s (next_operation setup s)

-- the oldest waiting containers, at most so many, are given up
abbrev pub drop_moves : ℕ → List Holding → List Move
drop_moves most [] = []
drop_moves most (h ∷ holdings) = if is_waiting h.place && nat_lt 0 most then Drops h.container.lsn ∷ drop_moves (most - 1) holdings else drop_moves most holdings

-- at the end of each event: a session is settled, a request is frozen, and what is too much is given up
abbrev pub finish_moves : SmfSetup → ℕ → Session → List Move
finish_moves setup now s =
    drop_moves (waiting_count (freeze_due setup now (settled setup now s)).holdings - setup.held_max) (freeze_due setup now (settled setup now s)).holdings
    ++ (freeze_moves setup now (settled setup now s) ++ settle_moves setup now s)

-- a reply that ends the session closes what is open
abbrev pub ending_moves : ℕ → Reply → Session → List Move
ending_moves now (Created reference answer) s = []
ending_moves now (Updated answer) s = []
ending_moves now Released s = closes_all now AbnormalRelease s
ending_moves now (Refused problem) s = closes_all now AbnormalRelease s

-- a reply to the unanswered request, and what it closes
abbrev pub reply_moves : ℕ → Reply → Option Request → Session → List Move
reply_moves now reply None s = []
reply_moves now reply (Some q) s = Answers reply ∷ ending_moves now reply s

-- an attempt ends without an answer
abbrev pub loss_move : Loss → Move
loss_move Unsent = EndsUnsent
loss_move Unanswered = EndsUnanswered

-- a live session that is broken off closes what is open
abbrev pub breaking_moves : ℕ → Life → Session → List Move
breaking_moves now Live s = closes_all now AbnormalRelease s
breaking_moves now Ending s = []
breaking_moves now Aborting s = []
breaking_moves now Ended s = []

-- a round is over
abbrev pub round_moves : ℕ → Session → List Move
round_moves now s =
    if is_continue s.handling then [] else
    (if s.sending.unsent then GivesUp ∷ closes_all now AbnormalRelease s else
    breaking_moves now s.life s)

-- after an attempt
abbrev pub moved_moves : ℕ → Session → List Move
moved_moves now s = if is_last s then round_moves now s else []

-- the attempt in flight ended without an answer
abbrev pub lost_moves : ℕ → Loss → Session → List Move
lost_moves now loss s = moved_moves now (with_loss loss s) ++ loss_move loss ∷ []

-- what an event's own effect closes, answers, attempts, loses and gives up
abbrev pub effect_moves : ℕ → SmfEvent → Session → List Move
effect_moves now (Attach session subscriber groups moment) s = []
effect_moves now (Start session group moment) s = []
effect_moves now (Count session r) s = closes_of r.moment (λ h. if is_open_of r.group h then closes_before (horizon_in (entry_of r.group s.groups)) r (open_of r.group s.holdings) else None) s.holdings
effect_moves now (Change session trigger moment) s = closes_all moment trigger s
effect_moves now (Tick moment) s = []
effect_moves now (Detach session abnormal moment) s = closes_all moment (if abnormal then AbnormalRelease else Final) s
effect_moves now (Answered session number reply) s = reply_moves now reply s.request s
effect_moves now (Attempt session peer) s = Attempts ∷ []
effect_moves now (NotSent session) s = lost_moves now Unsent s
effect_moves now (NoReply session) s = lost_moves now Unanswered s
effect_moves now Restart s = lost_moves now Unanswered s

-- what an event does to a session
abbrev pub session_moves : SmfSetup → ℕ → SmfEvent → Session → List Move
session_moves setup now event s = if touches event s then finish_moves setup now (effect setup now event s) ++ effect_moves now event s else []

-- of a session that the event adds
abbrev pub added_moves : SmfSetup → ℕ → ℕ → SmfEvent → List Move
added_moves setup now number (Attach session subscriber groups moment) =
    if session == number
    then finish_moves setup now (with_request setup now Create (fresh setup session subscriber groups moment)) ++ Freezes (request_of setup now (fresh setup session subscriber groups moment) Create) ∷ []
    else []
added_moves setup now number other = []

-- what an event does to the session of this number, or adds
abbrev pub moves_of : SmfSetup → ℕ → ℕ → SmfEvent → Option Session → List Move
moves_of setup now number event None = added_moves setup now number event
moves_of setup now number event (Some s) = session_moves setup now event s

-- only an event that is new does something
abbrev pub moves_if : Machine → ℕ → SmfEvent → Result Seen SmfRefusal → List Move
moves_if m number event (Ok New) = moves_of m.setup (now_after m.moment event) number event (session_of number m.sessions)
moves_if m number event (Ok Known) = []
moves_if m number event (Err e) = []

-- what the events, the newest first, did to a session: of each, what it did to the session as the events before it left it
abbrev pub trace : SmfSetup → List SmfEvent → ℕ → List Move
trace setup [] number = []
trace setup (event ∷ earlier) number =
    moves_if (machine_after setup earlier) number event (answer_of (machine_after setup earlier) event) ++ trace setup earlier number

-- the request that is unanswered
abbrev pub unanswered : List Move → Option Request
unanswered [] = None
unanswered (Freezes q ∷ earlier) = Some q
unanswered (Answers p ∷ earlier) = None
unanswered (GivesUp ∷ earlier) = None
unanswered (move ∷ earlier) = unanswered earlier

-- whether the next request may be frozen: there is none yet, or the newest was answered with success
abbrev pub is_idle : List Move → Bool
is_idle [] = true
is_idle (Freezes q ∷ earlier) = false
is_idle (Answers p ∷ earlier) = is_success p
is_idle (GivesUp ∷ earlier) = false
is_idle (move ∷ earlier) = is_idle earlier

-- requests are numbered 1, 2, 3; the newest comes first
abbrev pub AreNumbered : List Request → Type 0
AreNumbered [] = Unit {0}
AreNumbered (q ∷ earlier) = (q.number ≡ length earlier + 1) × AreNumbered earlier

-- each request after the first was frozen only after a final success of the one before
abbrev pub FreezeWhenIdle : List Move → Type 0
FreezeWhenIdle [] = Unit {0}
FreezeWhenIdle (Freezes q ∷ earlier) = (is_idle earlier ≡ true) × FreezeWhenIdle earlier
FreezeWhenIdle (move ∷ earlier) = FreezeWhenIdle earlier

-- a session is as its moves leave it
pub record Agrees (t : List Move) (s : Session) : Type 0 where
  pub count : s.count ≡ length (requests t)
  pub unanswered : unmarked s.request ≡ unanswered t
  pub numbered : AreNumbered (requests t)
  pub when_idle : FreezeWhenIdle t
  pub idle : is_some s.request ≡ false → is_ended s.life ≡ false → is_idle t ≡ true

-- a session is as its moves leave it
abbrev pub AgreesWith : List Move → Option Session → Type 0
AgreesWith t None = t ≡ []
AgreesWith t (Some s) = Agrees t s
