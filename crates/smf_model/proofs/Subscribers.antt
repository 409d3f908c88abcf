-- Each request of a session is of its subscriber.
use Rattle.std.proofs.Common.{◌≡◌, ℕ, ◌-◌, ◌==◌, Bool, true, false, cond, List, [], ◌∷◌, ◌++◌, refl, sym, ◌∙◌, ap, subst, append_assoc, append-nil}
use Rattle.std.specs.Prelude.{Option, Some, None}
use Rattle.std.specs.List.{AllByRecursion}
use Rattle.units.specs.declared.request.Operation.{Operation}
use Rattle.units.specs.declared.request.Operation.TheVariants.{Create}
use Rattle.units.specs.declared.request.Request.{Request}
use Rattle.units.specs.declared.reply.Reply.{Reply}
use Rattle.units.specs.declared.reply.Reply.TheVariants.{Created, Updated, Released, Refused}
use Rattle.units.specs.declared.trigger.TriggerType.TheVariants.{Final, AbnormalRelease}
use Rattle.sessions.specs.Trace.{Move, requests}
use Rattle.sessions.specs.Trace.Move.{Freezes}
use Rattle.smf_model.specs.declared.setup.SmfSetup.{SmfSetup}
use Rattle.smf_model.specs.declared.session.Loss.{Loss}
use Rattle.smf_model.specs.declared.session.Loss.TheVariants.{Unsent, Unanswered}
use Rattle.smf_model.specs.declared.session.Session.{Session}
use Rattle.smf_model.specs.declared.event.SmfEvent.{SmfEvent}
use Rattle.smf_model.specs.declared.event.SmfEvent.TheVariants.{Attach, Start, Count, Change, Tick, Detach, Answered, Attempt, NotSent, NoReply, Restart}
use Rattle.smf_model.specs.Settle.{settled}
use Rattle.smf_model.specs.Freeze.{waiting_count, next_operation, request_of, with_request, freeze_by, freeze_due}
use Rattle.smf_model.specs.Traffic.{detached}
use Rattle.smf_model.specs.Rounds.{with_loss, lost}
use Rattle.smf_model.specs.Replies.{answered_by}
use Rattle.smf_model.specs.Machine.{machine_after, session_of, touches, effect, finished, next_session, fresh, added_by}
use Rattle.smf_model.specs.Trace.{trace, closes_all, settle_moves, freeze_moves_by, freeze_moves, drop_moves, finish_moves, reply_moves, loss_move, lost_moves, effect_moves, added_moves, moves_of}
use Rattle.smf_model.specs.History.{history}
use Rattle.smf_model.specs.Left.{AreOfSubscriber}
use Rattle.smf_model.proofs.Lifting.{With, IsKept, over_all}
use Rattle.smf_model.proofs.Losing.{KeptByLoss, lost_kept}
use Rattle.smf_model.proofs.Placed.{closes_leave, drops_leave}
use Rattle.smf_model.proofs.Runs.{number-next}
use Rattle.smf_model.proofs.Traces.{trace_is}

-- the requests are of this subscriber, and so is the session
abbrev Of : List ℕ → List Move → Session → Type 0
Of subscriber t s = (s.subscriber ≡ subscriber) × AllByRecursion (λ (q : Request). q.subscriber ≡ Some subscriber) (requests t)

left_of : (subscriber : List ℕ) (t u : List Move) (s v : Session) → v.subscriber ≡ s.subscriber → requests u ≡ requests t → Of subscriber t s → Of subscriber u v
left_of subscriber t u s v same is h = (same ∙ h.0, subst (AllByRecursion (λ (q : Request). q.subscriber ≡ Some subscriber)) (sym is) h.1)

freeze_of : (next : Option Operation) (subscriber : List ℕ) (setup : SmfSetup) (now : ℕ) (t : List Move) (s : Session) → Of subscriber t s → Of subscriber (freeze_moves_by setup now s next ++ t) (freeze_by setup now next s)
freeze_of None subscriber setup now t s h = h
freeze_of (Some o) subscriber setup now t s h = (h.0, (ap Some h.0, h.1))

finished_of : (subscriber : List ℕ) (setup : SmfSetup) (now : ℕ) (t : List Move) (s : Session) → Of subscriber t s → Of subscriber (finish_moves setup now s ++ t) (finished setup now s)
finished_of subscriber setup now t s h =
    let v : Session = settled setup now s in
    let w : Session = freeze_due setup now v in
    let c : List Move = settle_moves setup now s in
    let f : List Move = freeze_moves setup now v in
    let closed : Of subscriber (c ++ t) v = left_of subscriber t (c ++ t) s v refl (closes_leave now _ t s.holdings).requests h in
    let k : Of subscriber (f ++ (c ++ t)) w = freeze_of (next_operation setup v) subscriber setup now (c ++ t) v closed in
    let most : ℕ = waiting_count w.holdings - setup.held_max in
    rw (append_assoc, append_assoc) (left_of subscriber (f ++ (c ++ t)) (drop_moves most w.holdings ++ (f ++ (c ++ t))) w (finished setup now s) refl (drops_leave (f ++ (c ++ t)) w.holdings most).requests k)

of_by_loss : (subscriber : List ℕ) → KeptByLoss (Of subscriber) (λ o. Unit {0})
of_by_loss subscriber = record {
  sends = λ x t s latest flies unsent h. h;
  continues = λ t s h. h;
  breaks = λ now t s live h. (h.0, subst (AllByRecursion (λ (q : Request). q.subscriber ≡ Some subscriber)) (sym (closes_leave now _ t s.holdings).requests) h.1);
  gives_up = λ now t s landed unsent asked h. (h.0, subst (AllByRecursion (λ (q : Request). q.subscriber ≡ Some subscriber)) (sym (closes_leave now _ t s.holdings).requests) h.1);
}

one_of : (loss : Loss) (subscriber : List ℕ) (t : List Move) (s v : Session) → v.subscriber ≡ s.subscriber → Of subscriber t s → Of subscriber (loss_move loss ∷ t) v
one_of Unsent subscriber t s v same h = (same ∙ h.0, h.1)
one_of Unanswered subscriber t s v same h = (same ∙ h.0, h.1)

lost_of : (subscriber : List ℕ) (setup : SmfSetup) (now : ℕ) (loss : Loss) (t : List Move) (s : Session) → Of subscriber t s → Of subscriber (lost_moves now loss s ++ t) (lost setup now loss s)
lost_of subscriber setup now loss t s h = lost_kept (Of subscriber) (λ o. Unit {0}) (of_by_loss subscriber) setup now loss t s tt (one_of loss subscriber t s (with_loss loss s) refl h)

answered_of : (subscriber : List ℕ) (now : ℕ) (p : Reply) (q : Option Request) (t : List Move) (s : Session) → Of subscriber t s → Of subscriber (reply_moves now p q s ++ t) (answered_by now p q s)
answered_of subscriber now p None t s h = h
answered_of subscriber now (Created reference answer) (Some q) t s h = h
answered_of subscriber now (Updated answer) (Some q) t s h = h
answered_of subscriber now Released (Some q) t s h = left_of subscriber t (reply_moves now Released (Some q) s ++ t) s (answered_by now Released (Some q) s) refl (closes_leave now _ t s.holdings).requests h
answered_of subscriber now (Refused problem) (Some q) t s h = left_of subscriber t (reply_moves now (Refused problem) (Some q) s ++ t) s (answered_by now (Refused problem) (Some q) s) refl (closes_leave now _ t s.holdings).requests h

detached_of : (abnormal : Bool) (subscriber : List ℕ) (moment : ℕ) (t : List Move) (s : Session) → Of subscriber t s → Of subscriber (closes_all moment (cond abnormal AbnormalRelease Final) s ++ t) (detached abnormal moment s)
detached_of true subscriber moment t s h = left_of subscriber t (closes_all moment AbnormalRelease s ++ t) s (detached true moment s) refl (closes_leave moment _ t s.holdings).requests h
detached_of false subscriber moment t s h = left_of subscriber t (closes_all moment Final s ++ t) s (detached false moment s) refl (closes_leave moment _ t s.holdings).requests h

effect_of : (event : SmfEvent) (subscriber : List ℕ) (setup : SmfSetup) (now : ℕ) (t : List Move) (s : Session) → Of subscriber t s → Of subscriber (effect_moves now event s ++ t) (effect setup now event s)
effect_of (Attach session who groups moment) subscriber setup now t s h = h
effect_of (Start session group moment) subscriber setup now t s h = h
effect_of (Count session r) subscriber setup now t s h = left_of subscriber t (effect_moves now (Count session r) s ++ t) s (effect setup now (Count session r) s) refl (closes_leave r.moment _ t s.holdings).requests h
effect_of (Change session trigger moment) subscriber setup now t s h = left_of subscriber t (effect_moves now (Change session trigger moment) s ++ t) s (effect setup now (Change session trigger moment) s) refl (closes_leave moment _ t s.holdings).requests h
effect_of (Tick moment) subscriber setup now t s h = h
effect_of (Detach session abnormal moment) subscriber setup now t s h = detached_of abnormal subscriber moment t s h
effect_of (Answered session place reply) subscriber setup now t s h = answered_of subscriber now reply s.request t s h
effect_of (Attempt session peer) subscriber setup now t s h = h
effect_of (NotSent session) subscriber setup now t s h = lost_of subscriber setup now Unsent t s h
effect_of (NoReply session) subscriber setup now t s h = lost_of subscriber setup now Unanswered t s h
effect_of Restart subscriber setup now t s h = lost_of subscriber setup now Unanswered t s h

next_of : (b : Bool) (event : SmfEvent) (subscriber : List ℕ) (setup : SmfSetup) (now : ℕ) (t : List Move) (s : Session) → Of subscriber t s
    → Of subscriber (cond b (finish_moves setup now (effect setup now event s) ++ effect_moves now event s) [] ++ t) (cond b (finished setup now (effect setup now event s)) s)
next_of true event subscriber setup now t s h = rw append_assoc (finished_of subscriber setup now (effect_moves now event s ++ t) (effect setup now event s) (effect_of event subscriber setup now t s h))
next_of false event subscriber setup now t s h = h

-- over all events
abbrev Own : List Move → Session → Type 0
Own t s = AllByRecursion (λ (q : Request). q.subscriber ≡ Some s.subscriber) (requests t)

own_of : (subscriber : List ℕ) (t : List Move) (s : Session) → Of subscriber t s → Own t s
own_of subscriber t s h = subst (λ x. AllByRecursion (λ (q : Request). q.subscriber ≡ Some x) (requests t)) (sym h.0) h.1

created_at : (b : Bool) (m : List Move) (s : Session) → Own m s → With Own (cond b m [] ++ []) (cond b (Some s) None)
created_at true m s h = subst (λ l. Own l s) (sym (append-nil m)) h
created_at false m s h = refl

attached : (setup : SmfSetup) (now number : ℕ) (event : SmfEvent) → With Own (added_moves setup now number event ++ []) (session_of number (added_by setup now event))
attached setup now number (Attach session subscriber groups moment) =
    let s : Session = with_request setup now Create (fresh setup session subscriber groups moment) in
    let P : Bool → Type 0 = λ b. With Own (added_moves setup now number (Attach session subscriber groups moment) ++ []) (cond b (Some (finished setup now s)) None) in
    let asked : List Move = Freezes (request_of setup now (fresh setup session subscriber groups moment) Create) ∷ [] in
    subst P (ap (λ n. n == number) (sym (number-next (Tick now) setup now s)))
    (created_at (session == number) (finish_moves setup now s ++ asked) (finished setup now s) (own_of subscriber (finish_moves setup now s ++ asked) (finished setup now s) (finished_of subscriber setup now asked s (refl, (refl, tt)))))
attached setup now number (Start session group moment) = refl
attached setup now number (Count session r) = refl
attached setup now number (Change session trigger moment) = refl
attached setup now number (Tick moment) = refl
attached setup now number (Detach session abnormal moment) = refl
attached setup now number (Answered session place reply) = refl
attached setup now number (Attempt session peer) = refl
attached setup now number (NotSent session) = refl
attached setup now number (NoReply session) = refl
attached setup now number Restart = refl

own_kept : (setup : SmfSetup) → IsKept setup Own moves_of
own_kept setup = record {
  next = λ now number event s t is new h. own_of s.subscriber (moves_of setup now number event (Some s) ++ t) (next_session setup now event s) (next_of (touches event s) event s.subscriber setup now t s (refl, h));
  added = λ now number event. attached setup now number event;
}

with_own : (t : List Move) (o : Option Session) → With Own t o → AreOfSubscriber t o
with_own t None h = tt
with_own t (Some s) h = h

pub subscriber_run : (setup : SmfSetup) (events : List SmfEvent) (number : ℕ) → AreOfSubscriber (trace setup events number) (session_of number (machine_after setup events).sessions)
subscriber_run setup events number =
    subst (λ l. AreOfSubscriber l (session_of number (machine_after setup events).sessions)) (sym (trace_is setup events number))
    (with_own (history moves_of setup events number) (session_of number (machine_after setup events).sessions) (over_all setup Own moves_of (own_kept setup) events number))
