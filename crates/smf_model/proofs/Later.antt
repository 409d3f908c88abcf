-- Containers go on: open, waiting, frozen, then answered or given up.
use Rattle.std.proofs.Common.{◌≡◌, ℕ, ◌+◌, ◌-◌, ◌<◌, ◌==◌, ◌&&◌, ◌||◌, nat_lt, List, [], ◌∷◌, ◌++◌, length, map, refl, sym, ◌∙◌, ap, subst, arith, Bool, true, false, cond, inl, inr, ◌⊎◌}
use Rattle.std.specs.Prelude.{Option, Some, None, Result, Ok, Err}
use Rattle.std.specs.List.{list_any}
use Rattle.units.specs.declared.report.Report.{Report}
use Rattle.units.specs.declared.trigger.TriggerType.{TriggerType}
use Rattle.units.specs.declared.trigger.TriggerType.TheVariants.{Final, AbnormalRelease}
use Rattle.units.specs.declared.request.Operation.{Operation}
use Rattle.units.specs.declared.request.Request.{Request}
use Rattle.units.specs.declared.reply.Reply.{Reply}
use Rattle.units.specs.declared.reply.Reply.TheVariants.{Created, Updated, Released, Refused}
use Rattle.meter.specs.Joining.{extended}
use Rattle.smf_model.specs.declared.setup.SmfSetup.{SmfSetup}
use Rattle.smf_model.specs.declared.session.Life.{Life}
use Rattle.smf_model.specs.declared.session.Life.TheVariants.{Ending, Aborting, Ended}
use Rattle.smf_model.specs.declared.session.Loss.{Loss}
use Rattle.smf_model.specs.declared.session.Loss.TheVariants.{Unsent, Unanswered}
use Rattle.smf_model.specs.declared.session.Why.{Why}
use Rattle.smf_model.specs.declared.session.Why.TheVariants.{NotSent as NotSentWhy, HeldFull, Refused as RefusedWhy}
use Rattle.smf_model.specs.declared.session.Place.{Place}
use Rattle.smf_model.specs.declared.session.Place.TheVariants.{Open, Waiting, Frozen, Answered, GivenUp}
use Rattle.smf_model.specs.declared.session.Holding.{Holding}
use Rattle.smf_model.specs.declared.session.Session.{Session}
use Rattle.smf_model.specs.declared.session.Machine.{Machine}
use Rattle.smf_model.specs.declared.event.SmfEvent.{SmfEvent}
use Rattle.smf_model.specs.declared.event.SmfEvent.TheVariants.{Attach, Start, Count, Change, Tick, Detach, Answered as GotAnswer, Attempt, NotSent, NoReply, Restart}
use Rattle.smf_model.specs.declared.refusal.Seen.{Seen}
use Rattle.smf_model.specs.declared.refusal.Seen.TheVariants.{New, Known}
use Rattle.smf_model.specs.declared.refusal.SmfRefusal.{SmfRefusal}
use Rattle.smf_model.specs.Settle.{is_open, is_waiting, is_frozen, is_open_of, entry_of, close, close_due, due_at, settled}
use Rattle.smf_model.specs.Freeze.{move_oldest, waiting_count, freeze_due, freeze_by, next_operation}
use Rattle.smf_model.specs.Traffic.{close_of, extend_of, first_of, joined, taken, close_any, without_traffic, give_up, ended_for}
use Rattle.smf_model.specs.Rounds.{lost}
use Rattle.smf_model.specs.Replies.{answer_holding, replied, answered_by}
use Rattle.smf_model.specs.Machine.{machine_after, answer_of, after_answer, now_after, next_session, session_of, finished, touches, effect}
use Rattle.smf_model.specs.Forward.{rank, GoesOn, AreLater, IsLaterSession}
use Rattle.smf_model.proofs.Losing.{KeptByLoss, lost_kept}
use Rattle.smf_model.proofs.Runs.{number-next}

stays : (h : Holding) → GoesOn h h
stays h = (refl, inl refl)

on_then_on : (h k m : Holding) → GoesOn h k → GoesOn k m → GoesOn h m
on_then_on h k m a b = (b.0 ∙ a.0, places a.1 b.1)
  where
    places : (k.place ≡ h.place) ⊎ (rank h.place < rank k.place) → (m.place ≡ k.place) ⊎ (rank k.place < rank m.place) → (m.place ≡ h.place) ⊎ (rank h.place < rank m.place)
    places (inl e) (inl f) = inl (f ∙ e)
    places (inl e) (inr l) = let same = ap rank e in inr (omega (arith, same, l))
    places (inr l) (inl f) = let same = ap rank f in inr (omega (arith, same, l))
    places (inr l) (inr m') = inr (omega (arith, l, m'))

pub later_same : (hs : List Holding) → AreLater hs hs
later_same [] = tt
later_same (h ∷ hs) = (stays h, later_same hs)

pub later_then : (xs ys zs : List Holding) → AreLater xs ys → AreLater ys zs → AreLater xs zs
later_then [] ys zs a b = tt
later_then (x ∷ xs) [] zs a b = absurd a
later_then (x ∷ xs) (y ∷ ys) [] a b = absurd b
later_then (x ∷ xs) (y ∷ ys) (z ∷ zs) a b = (on_then_on x y z a.0 b.0, later_then xs ys zs a.1 b.1)

pub later_map : (f : Holding → Holding) (hs : List Holding) → ((h : Holding) → GoesOn h (f h)) → AreLater hs (map f hs)
later_map f [] g = tt
later_map f (h ∷ hs) g = (g h, later_map f hs g)

pub later_more : (hs ks : List Holding) → AreLater hs (hs ++ ks)
later_more [] ks = tt
later_more (h ∷ hs) ks = (stays h, later_more hs ks)

-- from a place below
below : (b : Bool) (h k : Holding) → k.container.lsn ≡ h.container.lsn → (b ≡ true → rank h.place < rank k.place) → GoesOn h (cond b k h)
below true h k same up = (same, inr (up refl))
below false h k same up = stays h

open_rank : (p : Place) → is_open p ≡ true → rank p ≡ 0
open_rank Open e = refl
open_rank Waiting e = cc
open_rank Frozen e = cc
open_rank Answered e = cc
open_rank (GivenUp w) e = cc

waiting_rank : (p : Place) → is_waiting p ≡ true → rank p ≡ 1
waiting_rank Open e = cc
waiting_rank Waiting e = refl
waiting_rank Frozen e = cc
waiting_rank Answered e = cc
waiting_rank (GivenUp w) e = cc

frozen_rank : (p : Place) → is_frozen p ≡ true → rank p ≡ 2
frozen_rank Open e = cc
frozen_rank Waiting e = cc
frozen_rank Frozen e = refl
frozen_rank Answered e = cc
frozen_rank (GivenUp w) e = cc

pub move_oldest_later : (n : ℕ) (p : Place) (hs : List Holding) → 1 < rank p → AreLater hs (move_oldest n p hs)
move_oldest_later n p [] up = tt
move_oldest_later n p (h ∷ hs) up = at (is_waiting h.place) (nat_lt 0 n) refl (λ m. move_oldest_later m p hs up)
  where
    at : (a b : Bool) → is_waiting h.place ≡ a → ((m : ℕ) → AreLater hs (move_oldest m p hs)) → AreLater (h ∷ hs) (cond (a && b) (record h { place = p } ∷ move_oldest (n - 1) p hs) (h ∷ move_oldest n p hs))
    at true true e k = ((refl, inr (let r = waiting_rank h.place e in omega (arith, r, up))), k (n - 1))
    at true false e k = (stays h, k n)
    at false b e k = (stays h, k n)

close_later : (now : ℕ) (t : Option TriggerType) (h : Holding) → rank h.place ≡ 0 → GoesOn h (close now t h)
close_later now None h e = stays h
close_later now (Some t) h e = (refl, inr (omega (arith, e)))

pub close_any_later : (now : ℕ) (t : TriggerType) (h : Holding) → GoesOn h (close_any now t h)
close_any_later now t h = at (is_open h.place) refl
  where
    at : (b : Bool) → is_open h.place ≡ b → GoesOn h (cond b (close now (Some t) h) h)
    at true e = close_later now (Some t) h (open_rank h.place e)
    at false e = stays h

pub give_up_later : (w : Why) (h : Holding) → GoesOn h (give_up w h)
give_up_later w h = at (is_waiting h.place) (is_frozen h.place) refl refl
  where
    at : (a b : Bool) → is_waiting h.place ≡ a → is_frozen h.place ≡ b → GoesOn h (cond (a || b) (record h { place = GivenUp w }) h)
    at true b e f = (refl, inr (let r = waiting_rank h.place e in omega (arith, r)))
    at false true e f = (refl, inr (let r = frozen_rank h.place f in omega (arith, r)))
    at false false e f = stays h

pub answer_later : (h : Holding) → GoesOn h (answer_holding h)
answer_later h = at (is_frozen h.place) refl
  where
    at : (b : Bool) → is_frozen h.place ≡ b → GoesOn h (cond b (record h { place = Answered }) h)
    at true e = (refl, inr (let r = frozen_rank h.place e in omega (arith, r)))
    at false e = stays h

close_due_later : (setup : SmfSetup) (now : ℕ) (s : Session) (h : Holding) → GoesOn h (close_due setup now s h)
close_due_later setup now s h = at (is_open h.place) refl
  where
    at : (b : Bool) → is_open h.place ≡ b → GoesOn h (cond b (close now (due_at setup now s (entry_of h.container.group s.groups)) h) h)
    at true e = close_later now _ h (open_rank h.place e)
    at false e = stays h

close_of_later : (group now : ℕ) (t : Option TriggerType) (h : Holding) → GoesOn h (close_of group now t h)
close_of_later group now t h = at (h.container.group == group) (is_open h.place) refl
  where
    at : (a b : Bool) → is_open h.place ≡ b → GoesOn h (cond (a && b) (close now t h) h)
    at true true e = close_later now t h (open_rank h.place e)
    at true false e = stays h
    at false b e = stays h

extend_later : (r : Report) (h : Holding) → GoesOn h (extend_of r h)
extend_later r h = at (is_open_of r.group h)
  where
    at : (b : Bool) → GoesOn h (cond b (record h { container = extended h.container r }) h)
    at true = (refl, inl refl)
    at false = stays h

joined_later : (r : Report) (hs : List Holding) → AreLater hs (joined r hs)
joined_later r hs = at (list_any (is_open_of r.group) hs)
  where
    at : (b : Bool) → AreLater hs (cond b (map (extend_of r) hs) (hs ++ first_of (length hs + 1) r ∷ []))
    at true = later_map (extend_of r) hs (extend_later r)
    at false = later_more hs _

taken_later : (r : Report) (t : Option TriggerType) (hs : List Holding) → AreLater hs (taken r t hs)
taken_later r t hs = later_then hs _ _ (later_map _ hs (close_of_later r.group r.moment t)) (joined_later r _)

-- sessions, by their containers
abbrev On : Session → Session → Type 0
On s u = AreLater s.holdings u.holdings

on_cond : (b : Bool) (s x y : Session) → On s x → On s y → On s (cond b x y)
on_cond true s x y hx hy = hx
on_cond false s x y hx hy = hy

without_on : (l : Life) (now : ℕ) (t : TriggerType) (s : Session) → On s (without_traffic l now t s)
without_on l now t s = later_map _ s.holdings (close_any_later now t)

ended_for_on : (w : Why) (now : ℕ) (s : Session) → On s (ended_for w now s)
ended_for_on w now s = later_then s.holdings _ _ (without_on Ended now AbnormalRelease s) (later_map _ _ (give_up_later w))

replied_on : (now stamp : ℕ) (p : Reply) (s : Session) → On s (replied now stamp p s)
replied_on now stamp (Created reference answer) s = later_map _ s.holdings answer_later
replied_on now stamp (Updated answer) s = later_map _ s.holdings answer_later
replied_on now stamp Released s = later_then s.holdings _ _ (later_map answer_holding s.holdings answer_later) (without_on Ended now AbnormalRelease (record s { holdings = map answer_holding s.holdings }))
replied_on now stamp (Refused problem) s = ended_for_on RefusedWhy now s

answered_on : (now : ℕ) (p : Reply) (q : Option Request) (s : Session) → On s (answered_by now p q s)
answered_on now p None s = later_same s.holdings
answered_on now p (Some q) s = replied_on now q.stamp p s

on_by_loss : (s : Session) → KeptByLoss (λ t u. On s u) (λ o. Unit {0})
on_by_loss s = record {
  sends = λ x t u latest flies unsent h. h;
  continues = λ t u h. h;
  breaks = λ now t u live h. later_then s.holdings u.holdings _ h (without_on Aborting now AbnormalRelease u);
  gives_up = λ now t u landed unsent asked h. later_then s.holdings u.holdings _ h (ended_for_on NotSentWhy now u);
}

lost_on : (setup : SmfSetup) (now : ℕ) (loss : Loss) (s : Session) → On s (lost setup now loss s)
lost_on setup now loss s = lost_kept (λ t u. On s u) (λ o. Unit {0}) (on_by_loss s) setup now loss [] s tt (later_same s.holdings)

effect_on : (event : SmfEvent) (setup : SmfSetup) (now : ℕ) (s : Session) → On s (effect setup now event s)
effect_on (Attach session subscriber groups moment) setup now s = later_same s.holdings
effect_on (Start session group moment) setup now s = later_same s.holdings
effect_on (Count session r) setup now s = taken_later r _ s.holdings
effect_on (Change session trigger moment) setup now s = later_map _ s.holdings (close_any_later moment trigger)
effect_on (Tick moment) setup now s = later_same s.holdings
effect_on (Detach session abnormal moment) setup now s = on_cond abnormal s (without_traffic Aborting moment AbnormalRelease s) (without_traffic Ending moment Final s) (without_on Aborting moment AbnormalRelease s) (without_on Ending moment Final s)
effect_on (GotAnswer session number reply) setup now s = answered_on now reply s.request s
effect_on (Attempt session peer) setup now s = later_same s.holdings
effect_on (NotSent session) setup now s = lost_on setup now Unsent s
effect_on (NoReply session) setup now s = lost_on setup now Unanswered s
effect_on Restart setup now s = lost_on setup now Unanswered s

freeze_on : (next : Option Operation) (setup : SmfSetup) (now : ℕ) (s : Session) → On s (freeze_by setup now next s)
freeze_on None setup now s = later_same s.holdings
freeze_on (Some o) setup now s = move_oldest_later 500 Frozen s.holdings (omega arith)

finished_on : (setup : SmfSetup) (now : ℕ) (s : Session) → On s (finished setup now s)
finished_on setup now s =
    later_then s.holdings _ _ (later_map _ s.holdings (close_due_later setup now s))
    (later_then (settled setup now s).holdings (freeze_due setup now (settled setup now s)).holdings _ (freeze_on (next_operation setup (settled setup now s)) setup now (settled setup now s))
    (move_oldest_later (waiting_count (freeze_due setup now (settled setup now s)).holdings - setup.held_max) (GivenUp HeldFull) (freeze_due setup now (settled setup now s)).holdings (omega arith)))

next_on : (event : SmfEvent) (setup : SmfSetup) (now : ℕ) (s : Session) → On s (next_session setup now event s)
next_on event setup now s = on_cond (touches event s) s _ _ (later_then s.holdings (effect setup now event s).holdings _ (effect_on event setup now s) (finished_on setup now (effect setup now event s))) (later_same s.holdings)

-- machines

found_at : (b : Bool) (x y : Session) (rest others : Option Session) → On x y → IsLaterSession rest others → IsLaterSession (cond b (Some x) rest) (cond b (Some y) others)
found_at true x y rest others h k = h
found_at false x y rest others h k = k

found_later : (number : ℕ) (f : Session → Session) (xs ys : List Session) → ((s : Session) → (f s).number ≡ s.number) → ((s : Session) → On s (f s)) → IsLaterSession (session_of number xs) (session_of number (map f xs ++ ys))
found_later number f [] ys same on = tt
found_later number f (x ∷ xs) ys same on =
    let P : Bool → Type 0 = λ b. IsLaterSession (session_of number (x ∷ xs)) (cond b (Some (f x)) (session_of number (map f xs ++ ys))) in
    subst P (ap (λ n. n == number) (sym (same x))) (found_at (x.number == number) x (f x) _ _ (on x) (found_later number f xs ys same on))

same_session : (o : Option Session) → IsLaterSession o o
same_session None = tt
same_session (Some s) = later_same s.holdings

session_then : (a b c : Option Session) → IsLaterSession a b → IsLaterSession b c → IsLaterSession a c
session_then None b c h k = tt
session_then (Some s) None c h k = absurd h
session_then (Some s) (Some t) None h k = absurd k
session_then (Some s) (Some t) (Some u) h k = later_then s.holdings t.holdings u.holdings h k

step_later : (r : Result Seen SmfRefusal) (m : Machine) (event : SmfEvent) (number : ℕ) → IsLaterSession (session_of number m.sessions) (session_of number (after_answer m event r).sessions)
step_later (Ok New) m event number = found_later number (next_session m.setup (now_after m.moment event) event) m.sessions _ (number-next event m.setup (now_after m.moment event)) (next_on event m.setup (now_after m.moment event))
step_later (Ok Known) m event number = same_session (session_of number m.sessions)
step_later (Err e) m event number = same_session (session_of number m.sessions)

pub later_run : (setup : SmfSetup) (more events : List SmfEvent) (number : ℕ) → IsLaterSession (session_of number (machine_after setup events).sessions) (session_of number (machine_after setup (more ++ events)).sessions)
later_run setup [] events number = same_session _
later_run setup (event ∷ more) events number = session_then _ _ _ (later_run setup more events number) (step_later (answer_of (machine_after setup (more ++ events)) event) (machine_after setup (more ++ events)) event number)
