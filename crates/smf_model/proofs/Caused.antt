-- A reply is an answer only by its event.
use Rattle.smf_model.proofs.Losing.{KeptByLoss, lost_kept}
use Rattle.sessions.specs.Content.{content}
use Rattle.units.specs.declared.trigger.TriggerType.TheVariants.{AbnormalRelease}
use Rattle.smf_model.specs.declared.session.Loss.TheVariants.{Unsent, Unanswered}
use Rattle.smf_model.specs.declared.session.Loss.{Loss}
use Rattle.std.proofs.Common.{◌≡◌, ℕ, ◌-◌, ◌==◌, ◌&&◌, nat_lt, Bool, true, false, cond, List, [], ◌∷◌, ◌++◌, length, refl, sym, ◌∙◌, ap, subst, arith, append-nil}
use Rattle.std.specs.Prelude.{Option, Some, None, Result, Ok, Err}
use Rattle.std.proofs.lemmas.Bool.{eqb-true, and_parts}
use Rattle.units.specs.declared.trigger.TriggerType.{TriggerType}
use Rattle.units.specs.declared.request.Operation.{Operation}
use Rattle.units.specs.declared.request.Operation.TheVariants.{Create}
use Rattle.units.specs.declared.request.Request.{Request}
use Rattle.units.specs.declared.reply.Reply.{Reply}
use Rattle.units.specs.declared.reply.Reply.TheVariants.{Created, Updated, Released, Refused}
use Rattle.sessions.specs.Trace.{Move, requests, IsTrace}
use Rattle.sessions.specs.Trace.Move.{Closes, Drops, Freezes, Attempts, NotSent, NoReply, GivesUp, Answers}
use Rattle.smf_model.specs.declared.setup.SmfSetup.{SmfSetup}
use Rattle.smf_model.specs.declared.session.Holding.{Holding}
use Rattle.smf_model.specs.declared.session.Session.{Session}
use Rattle.smf_model.specs.declared.session.Machine.{Machine}
use Rattle.smf_model.specs.declared.event.SmfEvent.{SmfEvent}
use Rattle.smf_model.specs.declared.event.SmfEvent.TheVariants.{Attach, Start, Count, Change, Tick, Detach, Answered, Attempt, NotSent as CameUnsent, NoReply as CameNoReply, Restart}
use Rattle.smf_model.specs.declared.refusal.Seen.{Seen}
use Rattle.smf_model.specs.declared.refusal.Seen.TheVariants.{New, Known}
use Rattle.smf_model.specs.declared.refusal.SmfRefusal.{SmfRefusal}
use Rattle.smf_model.specs.Settle.{is_waiting, settled}
use Rattle.smf_model.specs.Freeze.{waiting_count, next_operation, request_of, freeze_due, with_request}
use Rattle.smf_model.specs.Replies.{is_final_for, is_answer_to}
use Rattle.smf_model.specs.Sending.{unmarked}
use Rattle.smf_model.specs.Machine.{machine_after, answer_of, now_after, session_of, touches, effect, fresh}
use Rattle.smf_model.specs.Trace.{trace, close_moves, closes_of, settle_moves, freeze_moves_by, drop_moves, finish_moves, ending_moves, reply_moves, effect_moves, added_moves, moves_of, moves_if, unanswered, closes_all, loss_move, lost_moves}
use Rattle.smf_model.specs.Causes.{AreCaused}
use Rattle.smf_model.proofs.Lifting.{FoundIs, found_is, IsNew, is_new, With}
use Rattle.smf_model.proofs.Placed.{closes_leave}
use Rattle.smf_model.proofs.Effects.{is_final_answer}
use Rattle.smf_model.proofs.Traces.{StandsWhole, whole_run}

-- moves that are no replies
abbrev pub NoReplies : List Move → Type 0
NoReplies [] = Unit {0}
NoReplies (Answers p ∷ ms) = ⊥
NoReplies (Closes c ∷ ms) = NoReplies ms
NoReplies (Drops lsn ∷ ms) = NoReplies ms
NoReplies (Freezes q ∷ ms) = NoReplies ms
NoReplies (Attempts ∷ ms) = NoReplies ms
NoReplies (NotSent ∷ ms) = NoReplies ms
NoReplies (NoReply ∷ ms) = NoReplies ms
NoReplies (GivesUp ∷ ms) = NoReplies ms

before_caused : (event : SmfEvent) (number : ℕ) (t xs ys : List Move) → NoReplies xs → AreCaused event number t ys → AreCaused event number t (xs ++ ys)
before_caused event number t [] ys n a = a
before_caused event number t (Answers p ∷ xs) ys n a = absurd n
before_caused event number t (Closes c ∷ xs) ys n a = (tt, before_caused event number t xs ys n a)
before_caused event number t (Drops lsn ∷ xs) ys n a = (tt, before_caused event number t xs ys n a)
before_caused event number t (Freezes q ∷ xs) ys n a = (tt, before_caused event number t xs ys n a)
before_caused event number t (Attempts ∷ xs) ys n a = (tt, before_caused event number t xs ys n a)
before_caused event number t (NotSent ∷ xs) ys n a = (tt, before_caused event number t xs ys n a)
before_caused event number t (NoReply ∷ xs) ys n a = (tt, before_caused event number t xs ys n a)
before_caused event number t (GivesUp ∷ xs) ys n a = (tt, before_caused event number t xs ys n a)

pub both_none : (xs ys : List Move) → NoReplies xs → NoReplies ys → NoReplies (xs ++ ys)
both_none [] ys n m = m
both_none (Answers p ∷ xs) ys n m = absurd n
both_none (Closes c ∷ xs) ys n m = both_none xs ys n m
both_none (Drops lsn ∷ xs) ys n m = both_none xs ys n m
both_none (Freezes q ∷ xs) ys n m = both_none xs ys n m
both_none (Attempts ∷ xs) ys n m = both_none xs ys n m
both_none (NotSent ∷ xs) ys n m = both_none xs ys n m
both_none (NoReply ∷ xs) ys n m = both_none xs ys n m
both_none (GivesUp ∷ xs) ys n m = both_none xs ys n m

pub closes_none : (m : ℕ) (closing : Holding → Option TriggerType) (hs : List Holding) → NoReplies (closes_of m closing hs)
closes_none m closing [] = tt
closes_none m closing (h ∷ hs) = at (closing h) (closes_none m closing hs)
  where
    at : (x : Option TriggerType) → NoReplies (closes_of m closing hs) → NoReplies (close_moves m h x ++ closes_of m closing hs)
    at None n = n
    at (Some x) n = n

drops_none : (most : ℕ) (hs : List Holding) → NoReplies (drop_moves most hs)
drops_none most [] = tt
drops_none most (h ∷ hs) = at (is_waiting h.place && nat_lt 0 most) (λ n. drops_none n hs)
  where
    at : (b : Bool) → ((n : ℕ) → NoReplies (drop_moves n hs)) → NoReplies (cond b (Drops h.container.lsn ∷ drop_moves (most - 1) hs) (drop_moves most hs))
    at true n = n (most - 1)
    at false n = n most

freeze_none : (next : Option Operation) (setup : SmfSetup) (now : ℕ) (s : Session) → NoReplies (freeze_moves_by setup now s next)
freeze_none None setup now s = tt
freeze_none (Some o) setup now s = tt

pub finish_none : (setup : SmfSetup) (now : ℕ) (s : Session) → NoReplies (finish_moves setup now s)
finish_none setup now s =
    let v : Session = settled setup now s in
    let w : Session = freeze_due setup now v in
    both_none (drop_moves (waiting_count w.holdings - setup.held_max) w.holdings) (freeze_moves_by setup now v (next_operation setup v) ++ settle_moves setup now s) (drops_none (waiting_count w.holdings - setup.held_max) w.holdings)
    (both_none (freeze_moves_by setup now v (next_operation setup v)) (settle_moves setup now s) (freeze_none (next_operation setup v) setup now v) (closes_none now _ s.holdings))

-- moves that are no replies are of any event
none_caused : (event : SmfEvent) (number : ℕ) (t xs : List Move) → NoReplies xs → AreCaused event number t xs
none_caused event number t [] n = tt
none_caused event number t (Answers p ∷ xs) n = absurd n
none_caused event number t (Closes c ∷ xs) n = (tt, none_caused event number t xs n)
none_caused event number t (Drops lsn ∷ xs) n = (tt, none_caused event number t xs n)
none_caused event number t (Freezes q ∷ xs) n = (tt, none_caused event number t xs n)
none_caused event number t (Attempts ∷ xs) n = (tt, none_caused event number t xs n)
none_caused event number t (NotSent ∷ xs) n = (tt, none_caused event number t xs n)
none_caused event number t (NoReply ∷ xs) n = (tt, none_caused event number t xs n)
none_caused event number t (GivesUp ∷ xs) n = (tt, none_caused event number t xs n)

-- the number of the unanswered request
pub newest_number : (t : List Move) (q : Request) → IsTrace t → unanswered t ≡ Some q → q.number ≡ length (requests t)
newest_number [] q v e = cc
newest_number (Closes c ∷ t) q v e = newest_number t q v.1 e
newest_number (Drops d ∷ t) q v e = newest_number t q v.1 e
newest_number (Attempts ∷ t) q v e = newest_number t q v.1 e
newest_number (NotSent ∷ t) q v e = newest_number t q v.1 e
newest_number (NoReply ∷ t) q v e = newest_number t q v.1 e
newest_number (GivesUp ∷ t) q v e = cc
newest_number (Answers p ∷ t) q v e = cc
newest_number (Freezes r ∷ t) q v e = let same : r ≡ q = cc in sym (ap (λ (x : Request). x.number) same) ∙ v.0.next ∙ omega arith

-- a reply to it
replied_caused : (now session place number : ℕ) (p : Reply) (q : Request) (t : List Move) (s : Session) → session ≡ number → place ≡ length (requests t) → AreCaused (Answered session place p) number t (Answers p ∷ ending_moves now p s)
replied_caused now session place number p q t s here is = (
  ap (λ n. Answered n place p) here ∙ ap (λ n. Answered number n p) (is ∙ ap length (sym (ending_requests p))),
  none_caused (Answered session place p) number t (ending_moves now p s) (ending_none p),
)
  where
    ending_requests : (p : Reply) → requests (ending_moves now p s ++ t) ≡ requests t
    ending_requests (Created reference answer) = refl
    ending_requests (Updated answer) = refl
    ending_requests Released = (closes_leave now _ t s.holdings).requests
    ending_requests (Refused problem) = (closes_leave now _ t s.holdings).requests

    ending_none : (p : Reply) → NoReplies (ending_moves now p s)
    ending_none (Created reference answer) = tt
    ending_none (Updated answer) = tt
    ending_none Released = closes_none now _ s.holdings
    ending_none (Refused problem) = closes_none now _ s.holdings

answered_caused : (now session place number : ℕ) (p : Reply) (o : Option Request) (t : List Move) (s : Session) → IsTrace t → unanswered t ≡ unmarked o → session ≡ number → is_answer_to place p o ≡ true
    → AreCaused (Answered session place p) number t (reply_moves now p o s)
answered_caused now session place number p None t s v is here final = tt
answered_caused now session place number p (Some q) t s v is here final =
    replied_caused now session place number p q t s here (sym (eqb-true q.number place (and_parts (q.number == place) (is_final_for q.operation p place) final).0) ∙ newest_number t (content q) v is)

-- the end of an attempt brings none
none_by_loss : KeptByLoss (λ t s. NoReplies t) (λ o. Unit {0})
none_by_loss = record {
  sends = λ x t s latest flies unsent n. n;
  continues = λ t s n. n;
  breaks = λ now t s live n. both_none (closes_all now AbnormalRelease s) t (closes_none now _ s.holdings) n;
  gives_up = λ now t s landed unsent asked n. both_none (closes_all now AbnormalRelease s) t (closes_none now _ s.holdings) n;
}

one_none : (loss : Loss) → NoReplies (loss_move loss ∷ [])
one_none Unsent = tt
one_none Unanswered = tt

pub loss_none : (setup : SmfSetup) (now : ℕ) (loss : Loss) (s : Session) → NoReplies (lost_moves now loss s)
loss_none setup now loss s = subst NoReplies (append-nil (lost_moves now loss s)) (lost_kept (λ t u. NoReplies t) (λ o. Unit {0}) none_by_loss setup now loss [] s tt (one_none loss))

effect_caused : (event : SmfEvent) (setup : SmfSetup) (now number : ℕ) (t : List Move) (s : Session) → (s.number == number) ≡ true → touches event s ≡ true → IsNew event s → StandsWhole t s → AreCaused event number t (effect_moves now event s)
effect_caused (Attach session subscriber groups moment) setup now number t s is on new w = tt
effect_caused (Start session group moment) setup now number t s is on new w = tt
effect_caused (Count session r) setup now number t s is on new w = none_caused (Count session r) number t _ (closes_none r.moment _ s.holdings)
effect_caused (Change session trigger moment) setup now number t s is on new w = none_caused (Change session trigger moment) number t _ (closes_none moment _ s.holdings)
effect_caused (Tick moment) setup now number t s is on new w = tt
effect_caused (Detach session abnormal moment) setup now number t s is on new w = none_caused (Detach session abnormal moment) number t _ (closes_none moment _ s.holdings)
effect_caused (Answered session place reply) setup now number t s is on new w =
    answered_caused now session place number reply s.request t s w.0.valid (sym w.0.unanswered) (sym (eqb-true s.number session on) ∙ eqb-true s.number number is) (is_final_answer place reply s (new on))
effect_caused (Attempt session peer) setup now number t s is on new w = (tt, tt)
effect_caused (CameUnsent session) setup now number t s is on new w = none_caused (CameUnsent session) number t (lost_moves now Unsent s) (loss_none setup now Unsent s)
effect_caused (CameNoReply session) setup now number t s is on new w = none_caused (CameNoReply session) number t (lost_moves now Unanswered s) (loss_none setup now Unanswered s)
effect_caused Restart setup now number t s is on new w = none_caused Restart number t (lost_moves now Unanswered s) (loss_none setup now Unanswered s)

session_caused : (b : Bool) (event : SmfEvent) (setup : SmfSetup) (now number : ℕ) (t : List Move) (s : Session) → (s.number == number) ≡ true → touches event s ≡ b → IsNew event s → StandsWhole t s
    → AreCaused event number t (cond b (finish_moves setup now (effect setup now event s) ++ effect_moves now event s) [])
session_caused true event setup now number t s is on new w = before_caused event number t (finish_moves setup now (effect setup now event s)) (effect_moves now event s) (finish_none setup now (effect setup now event s)) (effect_caused event setup now number t s is on new w)
session_caused false event setup now number t s is on new w = tt

pub created_none : (b : Bool) (xs : List Move) → NoReplies xs → NoReplies (cond b xs [])
created_none true xs n = n
created_none false xs n = tt

added_caused : (event : SmfEvent) (setup : SmfSetup) (now number : ℕ) (t : List Move) → AreCaused event number t (added_moves setup now number event)
added_caused (Attach session subscriber groups moment) setup now number t =
    let s : Session = with_request setup now Create (fresh setup session subscriber groups moment) in
    let asked : List Move = Freezes (request_of setup now (fresh setup session subscriber groups moment) Create) ∷ [] in
    none_caused (Attach session subscriber groups moment) number t (added_moves setup now number (Attach session subscriber groups moment))
    (created_none (session == number) (finish_moves setup now s ++ asked) (both_none (finish_moves setup now s) asked (finish_none setup now s) tt))
added_caused (Start session group moment) setup now number t = tt
added_caused (Count session r) setup now number t = tt
added_caused (Change session trigger moment) setup now number t = tt
added_caused (Tick moment) setup now number t = tt
added_caused (Detach session abnormal moment) setup now number t = tt
added_caused (Answered session place reply) setup now number t = tt
added_caused (Attempt session peer) setup now number t = tt
added_caused (CameUnsent session) setup now number t = tt
added_caused (CameNoReply session) setup now number t = tt
added_caused Restart setup now number t = tt

found_caused : (o : Option Session) (event : SmfEvent) (setup : SmfSetup) (now number : ℕ) (t : List Move) → FoundIs number o → ((s : Session) → o ≡ Some s → IsNew event s) → With StandsWhole t o → AreCaused event number t (moves_of setup now number event o)
found_caused None event setup now number t is new h = added_caused event setup now number t
found_caused (Some s) event setup now number t is new h = session_caused (touches event s) event setup now number t s is refl (new s refl) h

event_caused : (r : Result Seen SmfRefusal) (m : Machine) (event : SmfEvent) (number : ℕ) (t : List Move) → answer_of m event ≡ r → With StandsWhole t (session_of number m.sessions) → AreCaused event number t (moves_if m number event r)
event_caused (Ok New) m event number t new h =
    found_caused (session_of number m.sessions) event m.setup (now_after m.moment event) number t (found_is number m.sessions)
    (λ s found. is_new event m number s found (subst (FoundIs number) found (found_is number m.sessions)) new) h
event_caused (Ok Known) m event number t new h = tt
event_caused (Err e) m event number t new h = tt

pub caused : (setup : SmfSetup) (event : SmfEvent) (events : List SmfEvent) (number : ℕ) → AreCaused event number (trace setup events number) (moves_if (machine_after setup events) number event (answer_of (machine_after setup events) event))
caused setup event events number =
    let m = machine_after setup events in
    event_caused (answer_of m event) m event number (trace setup events number) refl (whole_run setup events number)
