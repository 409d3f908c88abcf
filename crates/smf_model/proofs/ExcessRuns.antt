-- What each event gives up as too much, for every list of events.
use Rattle.smf_model.proofs.Sends.{asking_sends}
use Rattle.smf_model.proofs.Losing.{KeptByLoss, lost_kept}
use Rattle.units.specs.declared.trigger.TriggerType.TheVariants.{AbnormalRelease}
use Rattle.smf_model.specs.declared.session.Loss.TheVariants.{Unsent, Unanswered}
use Rattle.smf_model.specs.declared.session.Loss.{Loss}
use Rattle.std.proofs.Common.{◌≡◌, ◌⊎◌, inl, inr, ℕ, ◌-◌, ◌<◌, ◌≤◌, ◌==◌, Bool, true, false, cond, List, [], ◌∷◌, ◌++◌, refl, sym, ◌∙◌, ap, subst, arith, append_assoc, append-nil}
use Rattle.std.specs.Prelude.{Option, Some, None, Result, Ok, Err}
use Rattle.units.specs.declared.trigger.TriggerType.{TriggerType}
use Rattle.units.specs.declared.request.Operation.{Operation}
use Rattle.units.specs.declared.request.Operation.TheVariants.{Create}
use Rattle.units.specs.declared.request.Request.{Request}
use Rattle.units.specs.declared.reply.Reply.{Reply}
use Rattle.units.specs.declared.reply.Reply.TheVariants.{Created, Updated, Released, Refused}
use Rattle.sessions.specs.Trace.{Move, given_up, IsWaiting}
use Rattle.sessions.specs.Trace.Move.{Closes, Drops, Freezes, Attempts, NotSent, NoReply, GivesUp, Answers}
use Rattle.sessions.specs.Trace.Cause.{HeldFull as HeldFullCause}
use Rattle.smf_model.specs.declared.setup.SmfSetup.{SmfSetup}
use Rattle.smf_model.specs.declared.session.Holding.{Holding}
use Rattle.smf_model.specs.declared.session.Session.{Session}
use Rattle.smf_model.specs.declared.session.Machine.{Machine}
use Rattle.smf_model.specs.declared.event.SmfEvent.{SmfEvent}
use Rattle.smf_model.specs.declared.event.SmfEvent.TheVariants.{Attach, Start, Count, Change, Tick, Detach, Answered, Attempt, NotSent as CameUnsent, NoReply as CameNoReply, Restart}
use Rattle.smf_model.specs.declared.refusal.Seen.{Seen}
use Rattle.smf_model.specs.declared.refusal.Seen.TheVariants.{New, Known}
use Rattle.smf_model.specs.declared.refusal.SmfRefusal.{SmfRefusal}
use Rattle.smf_model.specs.Settle.{settled}
use Rattle.smf_model.specs.Freeze.{waiting_count, next_operation, request_of, freeze_due, with_request}
use Rattle.smf_model.specs.Machine.{machine_after, answer_of, now_after, session_of, touches, effect, fresh}
use Rattle.smf_model.specs.Trace.{trace, close_moves, closes_of, settle_moves, freeze_moves, freeze_moves_by, drop_moves, finish_moves, reply_moves, effect_moves, added_moves, moves_of, moves_if, closes_all, loss_move, lost_moves}
use Rattle.smf_model.specs.Limits.{WaitsAtMost}
use Rattle.smf_model.specs.Contents.{waiting_to}
use Rattle.smf_model.specs.Excess.{waiting_between, GivesUpBeyond, DropsNone, EndsEvent}
use Rattle.smf_model.proofs.Entries.{HasEntries, settled_entries, asking_entries}
use Rattle.smf_model.proofs.Held.{Stands, frozen_stands, asking_stands}
use Rattle.smf_model.proofs.Lifting.{FoundIs, found_is, IsNew, is_new, With, same_setup}
use Rattle.smf_model.proofs.Traces.{StandsWhole, effect_whole, fresh_whole, whole_run}
use Rattle.smf_model.proofs.Limits.{waits_run}
use Rattle.smf_model.proofs.Excess.{drop_numbers, drops_numbered, total_is, beyond}

-- moves that drop none

none_more : (xs ys : List Move) → DropsNone xs → DropsNone ys → DropsNone (xs ++ ys)
none_more [] ys n m = m
none_more (Drops lsn ∷ xs) ys n m = absurd n
none_more (Answers p ∷ xs) ys n m = none_more xs ys n m
none_more (Closes c ∷ xs) ys n m = none_more xs ys n m
none_more (Freezes q ∷ xs) ys n m = none_more xs ys n m
none_more (Attempts ∷ xs) ys n m = none_more xs ys n m
none_more (NotSent ∷ xs) ys n m = none_more xs ys n m
none_more (NoReply ∷ xs) ys n m = none_more xs ys n m
none_more (GivesUp ∷ xs) ys n m = none_more xs ys n m

closes_none : (m : ℕ) (closing : Holding → Option TriggerType) (hs : List Holding) → DropsNone (closes_of m closing hs)
closes_none m closing [] = tt
closes_none m closing (h ∷ hs) = at (closing h) (closes_none m closing hs)
  where
    at : (x : Option TriggerType) → DropsNone (closes_of m closing hs) → DropsNone (close_moves m h x ++ closes_of m closing hs)
    at None n = n
    at (Some x) n = n

freeze_none : (next : Option Operation) (setup : SmfSetup) (now : ℕ) (s : Session) → DropsNone (freeze_moves_by setup now s next)
freeze_none None setup now s = tt
freeze_none (Some o) setup now s = tt

reply_none : (now : ℕ) (p : Reply) (q : Option Request) (s : Session) → DropsNone (reply_moves now p q s)
reply_none now p None s = tt
reply_none now (Created reference answer) (Some q) s = tt
reply_none now (Updated answer) (Some q) s = tt
reply_none now Released (Some q) s = closes_none now _ s.holdings
reply_none now (Refused problem) (Some q) s = closes_none now _ s.holdings

none_by_loss : KeptByLoss (λ t s. DropsNone t) (λ o. Unit {0})
none_by_loss = record {
  sends = λ x t s latest flies unsent n. n;
  continues = λ t s n. n;
  breaks = λ now t s live n. none_more (closes_all now AbnormalRelease s) t (closes_none now _ s.holdings) n;
  gives_up = λ now t s landed unsent asked n. none_more (closes_all now AbnormalRelease s) t (closes_none now _ s.holdings) n;
}

one_none : (loss : Loss) → DropsNone (loss_move loss ∷ [])
one_none Unsent = tt
one_none Unanswered = tt

loss_none : (setup : SmfSetup) (now : ℕ) (loss : Loss) (s : Session) → DropsNone (lost_moves now loss s)
loss_none setup now loss s = subst DropsNone (append-nil (lost_moves now loss s)) (lost_kept (λ t u. DropsNone t) (λ o. Unit {0}) none_by_loss setup now loss [] s tt (one_none loss))

effect_none : (event : SmfEvent) (setup : SmfSetup) (now : ℕ) (s : Session) → DropsNone (effect_moves now event s)
effect_none (Attach session subscriber groups moment) setup now s = tt
effect_none (Start session group moment) setup now s = tt
effect_none (Count session r) setup now s = closes_none r.moment _ s.holdings
effect_none (Change session trigger moment) setup now s = closes_none moment _ s.holdings
effect_none (Tick moment) setup now s = tt
effect_none (Detach session abnormal moment) setup now s = closes_none moment _ s.holdings
effect_none (Answered session number reply) setup now s = reply_none now reply s.request s
effect_none (Attempt session peer) setup now s = tt
effect_none (CameUnsent session) setup now s = loss_none setup now Unsent s
effect_none (CameNoReply session) setup now s = loss_none setup now Unanswered s
effect_none Restart setup now s = loss_none setup now Unanswered s

-- the end of an event
ended : (setup : SmfSetup) (now : ℕ) (e t : List Move) (s : Session) → StandsWhole (e ++ t) s → DropsNone e → EndsEvent setup.held_max t ((finish_moves setup now s ++ e) ++ t)
ended setup now e t s h none = record {
  moves = (f ++ c) ++ e;
  dropped = drop_numbers over w.holdings;
  is = whole ∙ ap (λ l. l ++ (((f ++ c) ++ e) ++ t)) (drops_numbered over w.holdings);
  drops_none = none_more (f ++ c) e (none_more f c (freeze_none (next_operation setup v) setup now v) (closes_none now _ s.holdings)) none;
  beyond = subst (GivesUpBeyond setup.held_max (((f ++ c) ++ e) ++ t)) (sym whole)
      (subst (λ l. GivesUpBeyond setup.held_max l (d ++ l)) (sym flat) (beyond setup.held_max (f ++ (c ++ (e ++ t))) w stands));
}
  where
    v : Session
    v = settled setup now s

    w : Session
    w = freeze_due setup now v

    over : ℕ
    over = waiting_count w.holdings - setup.held_max

    c : List Move
    c = settle_moves setup now s

    f : List Move
    f = freeze_moves setup now v

    d : List Move
    d = drop_moves over w.holdings

    entries : HasEntries v
    entries = settled_entries setup now s h.1

    stands : Stands (f ++ (c ++ (e ++ t))) w
    stands = frozen_stands setup now (e ++ t) s entries.apart entries.entered h.0

    flat : ((f ++ c) ++ e) ++ t ≡ f ++ (c ++ (e ++ t))
    flat = append_assoc (f ++ c) e t ∙ append_assoc f c (e ++ t)

    whole : ((d ++ (f ++ c)) ++ e) ++ t ≡ d ++ (((f ++ c) ++ e) ++ t)
    whole = ap (λ l. l ++ t) (append_assoc d (f ++ c) e) ∙ append_assoc d ((f ++ c) ++ e) t

-- where nothing happens nothing is too much
nothing_waits : (last lsn : ℕ) → IsWaiting [] lsn → ⊥
nothing_waits last lsn w = let f : None ≡ Some w.closed = w.is_closed in cc

still_beyond : (most : ℕ) (t : List Move) (o : Option Session) → With StandsWhole t o → WaitsAtMost most o → GivesUpBeyond most t t
still_beyond most t None h few last lsn none some = (λ e. inl e, back)
  where
    back : (given_up t lsn ≡ Some HeldFullCause) ⊎ (IsWaiting t lsn × (most < waiting_between t lsn last)) → given_up t lsn ≡ Some HeldFullCause
    back (inl e) = e
    back (inr (w, l)) = absurd (nothing_waits last lsn (subst (λ u. IsWaiting u lsn) h w))
still_beyond most t (Some s) h few last lsn none some = (λ e. inl e, back)
  where
    back : (given_up t lsn ≡ Some HeldFullCause) ⊎ (IsWaiting t lsn × (most < waiting_between t lsn last)) → given_up t lsn ≡ Some HeldFullCause
    back (inl e) = e
    back (inr (w, l)) = absurd (let total : waiting_to t last ≡ waiting_count s.holdings = total_is t s last h.0 none in omega (arith, total, few, l))

still : (most : ℕ) (t : List Move) (o : Option Session) → With StandsWhole t o → WaitsAtMost most o → EndsEvent most t t
still most t o h few = record { moves = []; dropped = []; is = refl; drops_none = tt; beyond = still_beyond most t o h few }

-- each event

session_ended : (b : Bool) (event : SmfEvent) (setup : SmfSetup) (now : ℕ) (t : List Move) (s : Session) → touches event s ≡ b → IsNew event s → StandsWhole t s → waiting_count s.holdings ≤ setup.held_max
    → EndsEvent setup.held_max t (cond b (finish_moves setup now (effect setup now event s) ++ effect_moves now event s) [] ++ t)
session_ended true event setup now t s on new h few = ended setup now (effect_moves now event s) t (effect setup now event s) (effect_whole event setup now t s on new h) (effect_none event setup now s)
session_ended false event setup now t s off new h few = still setup.held_max t (Some s) h few

created_ended : (b : Bool) (setup : SmfSetup) (now number : ℕ) (subscriber groups : List ℕ) (moment : ℕ) (t : List Move) → t ≡ []
    → EndsEvent setup.held_max t (cond b (finish_moves setup now (with_request setup now Create (fresh setup number subscriber groups moment)) ++ Freezes (request_of setup now (fresh setup number subscriber groups moment) Create) ∷ []) [] ++ t)
created_ended true setup now number subscriber groups moment t none =
    let s : Session = fresh setup number subscriber groups moment in
    let asked : List Move = Freezes (request_of setup now s Create) ∷ [] in
    let h : StandsWhole [] s = fresh_whole setup number subscriber groups moment in
    let k : StandsWhole asked (with_request setup now Create s) = (asking_stands setup now Create [] s refl h.1.apart h.1.entered h.0, asking_entries setup now Create s h.1, asking_sends setup now Create [] s) in
    ended setup now asked t (with_request setup now Create s) (subst (λ l. StandsWhole (asked ++ l) (with_request setup now Create s)) (sym none) k) tt
created_ended false setup now number subscriber groups moment t none = still setup.held_max t None none tt

added_ended : (event : SmfEvent) (setup : SmfSetup) (now number : ℕ) (t : List Move) → t ≡ [] → EndsEvent setup.held_max t (added_moves setup now number event ++ t)
added_ended (Attach session subscriber groups moment) setup now number t none = created_ended (session == number) setup now session subscriber groups moment t none
added_ended (Start session group moment) setup now number t none = still setup.held_max t None none tt
added_ended (Count session r) setup now number t none = still setup.held_max t None none tt
added_ended (Change session trigger moment) setup now number t none = still setup.held_max t None none tt
added_ended (Tick moment) setup now number t none = still setup.held_max t None none tt
added_ended (Detach session abnormal moment) setup now number t none = still setup.held_max t None none tt
added_ended (Answered session place reply) setup now number t none = still setup.held_max t None none tt
added_ended (Attempt session peer) setup now number t none = still setup.held_max t None none tt
added_ended (CameUnsent session) setup now number t none = still setup.held_max t None none tt
added_ended (CameNoReply session) setup now number t none = still setup.held_max t None none tt
added_ended Restart setup now number t none = still setup.held_max t None none tt

found_ended : (o : Option Session) (event : SmfEvent) (setup : SmfSetup) (now number : ℕ) (t : List Move) → ((s : Session) → o ≡ Some s → IsNew event s) → With StandsWhole t o → WaitsAtMost setup.held_max o
    → EndsEvent setup.held_max t (moves_of setup now number event o ++ t)
found_ended None event setup now number t new h few = added_ended event setup now number t h
found_ended (Some s) event setup now number t new h few = session_ended (touches event s) event setup now t s refl (new s refl) h few

event_ended : (r : Result Seen SmfRefusal) (m : Machine) (event : SmfEvent) (number : ℕ) (t : List Move) → answer_of m event ≡ r → With StandsWhole t (session_of number m.sessions) → WaitsAtMost m.setup.held_max (session_of number m.sessions)
    → EndsEvent m.setup.held_max t (moves_if m number event r ++ t)
event_ended (Ok New) m event number t new h few =
    found_ended (session_of number m.sessions) event m.setup (now_after m.moment event) number t
    (λ s found. is_new event m number s found (subst (FoundIs number) found (found_is number m.sessions)) new) h few
event_ended (Ok Known) m event number t new h few = still m.setup.held_max t (session_of number m.sessions) h few
event_ended (Err e) m event number t new h few = still m.setup.held_max t (session_of number m.sessions) h few

pub ends : (setup : SmfSetup) (event : SmfEvent) (events : List SmfEvent) (number : ℕ) → EndsEvent setup.held_max (trace setup events number) (trace setup (event ∷ events) number)
ends setup event events number =
    let m = machine_after setup events in
    let same : m.setup ≡ setup = same_setup setup events in
    subst (λ (x : SmfSetup). EndsEvent x.held_max (trace setup events number) (trace setup (event ∷ events) number)) same
    (event_ended (answer_of m event) m event number (trace setup events number) refl (whole_run setup events number)
    (subst (λ (x : SmfSetup). WaitsAtMost x.held_max (session_of number m.sessions)) (sym same) (waits_run setup events number)))
