-- After any events each request of a session holds the oldest waiting containers.
use Rattle.smf_model.proofs.Sends.{settled_sends, asking_sends}
use Rattle.smf_model.proofs.Losing.{KeptByLoss, lost_kept}
use Rattle.smf_model.specs.declared.session.Loss.TheVariants.{Unsent, Unanswered}
use Rattle.smf_model.specs.declared.session.Loss.{Loss}
use Rattle.std.proofs.Common.{◌≡◌, ℕ, ◌-◌, ◌==◌, ◌&&◌, nat_lt, Bool, true, false, cond, List, [], ◌∷◌, ◌++◌, refl, sym, ap, subst, append_assoc, append-nil}
use Rattle.std.specs.Prelude.{Option, Some, None, is_some}
use Rattle.units.specs.declared.trigger.TriggerType.{TriggerType}
use Rattle.units.specs.declared.request.Operation.{Operation}
use Rattle.units.specs.declared.request.Operation.TheVariants.{Create}
use Rattle.units.specs.declared.request.Request.{Request}
use Rattle.units.specs.declared.reply.Reply.{Reply}
use Rattle.units.specs.declared.reply.Reply.TheVariants.{Created, Updated, Released, Refused}
use Rattle.sessions.specs.Trace.{Move}
use Rattle.sessions.specs.Trace.Move.{Freezes, Drops}
use Rattle.smf_model.specs.declared.setup.SmfSetup.{SmfSetup}
use Rattle.smf_model.specs.declared.session.Holding.{Holding}
use Rattle.smf_model.specs.declared.session.Session.{Session}
use Rattle.smf_model.specs.declared.event.SmfEvent.{SmfEvent}
use Rattle.smf_model.specs.declared.event.SmfEvent.TheVariants.{Attach, Start, Count, Change, Tick, Detach, Answered, Attempt, NotSent, NoReply, Restart}
use Rattle.smf_model.specs.Settle.{is_waiting, settled}
use Rattle.smf_model.specs.Freeze.{waiting_count, next_operation, request_of, freeze_due, with_request}
use Rattle.smf_model.specs.Machine.{machine_after, session_of, touches, effect, finished, fresh, added_by}
use Rattle.smf_model.specs.Trace.{trace, close_moves, closes_of, settle_moves, freeze_moves_by, drop_moves, finish_moves, reply_moves, effect_moves, moves_of, added_moves, loss_move, lost_moves}
use Rattle.smf_model.specs.History.{history}
use Rattle.smf_model.specs.Contents.{AreContents}
use Rattle.smf_model.proofs.Runs.{number-next}
use Rattle.smf_model.proofs.Entries.{settled_entries, asking_entries}
use Rattle.smf_model.proofs.Held.{settled_stands, asking_stands, may_freeze}
use Rattle.smf_model.proofs.Lifting.{IsNew, With, IsKept, over_all}
use Rattle.smf_model.proofs.Traces.{StandsWhole, effect_whole, kept, fresh_whole, created_whole, trace_is}
use Rattle.smf_model.proofs.Contents.{is_content}

closes_contents : (m : ℕ) (closing : Holding → Option TriggerType) (hs : List Holding) (t : List Move) → AreContents t → AreContents (closes_of m closing hs ++ t)
closes_contents m closing [] t a = a
closes_contents m closing (h ∷ hs) t a = at (closing h) (closes_contents m closing hs t a)
  where
    at : (x : Option TriggerType) → AreContents (closes_of m closing hs ++ t) → AreContents ((close_moves m h x ++ closes_of m closing hs) ++ t)
    at None k = k
    at (Some x) k = k

drops_contents : (most : ℕ) (hs : List Holding) (t : List Move) → AreContents t → AreContents (drop_moves most hs ++ t)
drops_contents most [] t a = a
drops_contents most (h ∷ hs) t a = at (is_waiting h.place && nat_lt 0 most) (λ n. drops_contents n hs t a)
  where
    at : (b : Bool) → ((n : ℕ) → AreContents (drop_moves n hs ++ t)) → AreContents (cond b (Drops h.container.lsn ∷ drop_moves (most - 1) hs) (drop_moves most hs) ++ t)
    at true k = k (most - 1)
    at false k = k most

replied_contents : (now : ℕ) (p : Reply) (q : Option Request) (t : List Move) (s : Session) → AreContents t → AreContents (reply_moves now p q s ++ t)
replied_contents now p None t s a = a
replied_contents now (Created reference answer) (Some q) t s a = a
replied_contents now (Updated answer) (Some q) t s a = a
replied_contents now Released (Some q) t s a = closes_contents now _ s.holdings t a
replied_contents now (Refused problem) (Some q) t s a = closes_contents now _ s.holdings t a

contents_by_loss : KeptByLoss (λ t s. AreContents t) (λ o. Unit {0})
contents_by_loss = record {
  sends = λ x t s latest flies unsent a. a;
  continues = λ t s a. a;
  breaks = λ now t s live a. closes_contents now _ s.holdings t a;
  gives_up = λ now t s landed unsent asked a. closes_contents now _ s.holdings t a;
}

loss_contents : (loss : Loss) (t : List Move) → AreContents t → AreContents (loss_move loss ∷ t)
loss_contents Unsent t a = a
loss_contents Unanswered t a = a

lost_contents : (setup : SmfSetup) (now : ℕ) (loss : Loss) (t : List Move) (s : Session) → AreContents t → AreContents (lost_moves now loss s ++ t)
lost_contents setup now loss t s a = lost_kept (λ u v. AreContents u) (λ o. Unit {0}) contents_by_loss setup now loss t s tt (loss_contents loss t a)

effect_contents : (event : SmfEvent) (setup : SmfSetup) (now : ℕ) (t : List Move) (s : Session) → AreContents t → AreContents (effect_moves now event s ++ t)
effect_contents (Attach session subscriber groups moment) setup now t s a = a
effect_contents (Start session group moment) setup now t s a = a
effect_contents (Count session r) setup now t s a = closes_contents r.moment _ s.holdings t a
effect_contents (Change session trigger moment) setup now t s a = closes_contents moment _ s.holdings t a
effect_contents (Tick moment) setup now t s a = a
effect_contents (Detach session abnormal moment) setup now t s a = closes_contents moment _ s.holdings t a
effect_contents (Answered session number reply) setup now t s a = replied_contents now reply s.request t s a
effect_contents (Attempt session peer) setup now t s a = a
effect_contents (NotSent session) setup now t s a = lost_contents setup now Unsent t s a
effect_contents (NoReply session) setup now t s a = lost_contents setup now Unanswered t s a
effect_contents Restart setup now t s a = lost_contents setup now Unanswered t s a

freeze_contents : (next : Option Operation) (setup : SmfSetup) (now : ℕ) (t : List Move) (s : Session) → next_operation setup s ≡ next → StandsWhole t s → AreContents t → AreContents (freeze_moves_by setup now s next ++ t)
freeze_contents None setup now t s e h a = a
freeze_contents (Some o) setup now t s e h a =
    let free = may_freeze (is_some s.request) setup s s.life o e in
    (is_content setup now o t s (h.0.idle free.0 free.1) h.0 h.1, a)

finished_contents : (setup : SmfSetup) (now : ℕ) (t : List Move) (s : Session) → StandsWhole t s → AreContents t → AreContents (finish_moves setup now s ++ t)
finished_contents setup now t s h a =
    let v : Session = settled setup now s in
    let w : Session = freeze_due setup now v in
    let c : List Move = settle_moves setup now s in
    let f : List Move = freeze_moves_by setup now v (next_operation setup v) in
    let closed : StandsWhole (c ++ t) v = (settled_stands setup now t s h.0, settled_entries setup now s h.1, settled_sends setup now t s h.2) in
    let k : AreContents (f ++ (c ++ t)) = freeze_contents (next_operation setup v) setup now (c ++ t) v refl closed (closes_contents now _ s.holdings t a) in
    rw (append_assoc, append_assoc) (drops_contents (waiting_count w.holdings - setup.held_max) w.holdings (f ++ (c ++ t)) k)

abbrev Both : List Move → Session → Type 0
Both t s = StandsWhole t s × AreContents t

next_by : (b : Bool) (event : SmfEvent) (setup : SmfSetup) (now : ℕ) (t : List Move) (s : Session) → touches event s ≡ b → IsNew event s → Both t s
    → AreContents (cond b (finish_moves setup now (effect setup now event s) ++ effect_moves now event s) [] ++ t)
next_by true event setup now t s on new h =
    subst AreContents (sym (append_assoc (finish_moves setup now (effect setup now event s)) (effect_moves now event s) t))
    (finished_contents setup now (effect_moves now event s ++ t) (effect setup now event s) (effect_whole event setup now t s on new h.0) (effect_contents event setup now t s h.1))
next_by false event setup now t s on new h = h.1

created_contents : (setup : SmfSetup) (now number : ℕ) (subscriber groups : List ℕ) (moment : ℕ)
    → AreContents (finish_moves setup now (with_request setup now Create (fresh setup number subscriber groups moment)) ++ Freezes (request_of setup now (fresh setup number subscriber groups moment) Create) ∷ [])
created_contents setup now number subscriber groups moment =
    let s : Session = fresh setup number subscriber groups moment in
    let h : StandsWhole [] s = fresh_whole setup number subscriber groups moment in
    finished_contents setup now (Freezes (request_of setup now s Create) ∷ []) (with_request setup now Create s)
    (asking_stands setup now Create [] s refl h.1.apart h.1.entered h.0, asking_entries setup now Create s h.1, asking_sends setup now Create [] s) (is_content setup now Create [] s refl h.0 h.1, tt)

attached_at : (b : Bool) (m : List Move) (s : Session) → Both m s → With Both (cond b m [] ++ []) (cond b (Some s) None)
attached_at true m s h = subst (λ l. Both l s) (sym (append-nil m)) h
attached_at false m s h = refl

attached : (setup : SmfSetup) (now number : ℕ) (event : SmfEvent) → With Both (added_moves setup now number event ++ []) (session_of number (added_by setup now event))
attached setup now number (Attach session subscriber groups moment) =
    let s : Session = with_request setup now Create (fresh setup session subscriber groups moment) in
    let P : Bool → Type 0 = λ b. With Both (added_moves setup now number (Attach session subscriber groups moment) ++ []) (cond b (Some (finished setup now s)) None) in
    subst P (ap (λ n. n == number) (sym (number-next (Tick now) setup now s)))
    (attached_at (session == number) _ _ (created_whole setup now session subscriber groups moment, created_contents setup now session subscriber groups moment))
attached setup now number (Start session group moment) = refl
attached setup now number (Count session r) = refl
attached setup now number (Change session trigger moment) = refl
attached setup now number (Tick moment) = refl
attached setup now number (Detach session abnormal moment) = refl
attached setup now number (Answered session place reply) = refl
attached setup now number (Attempt session peer) = refl
attached setup now number (NotSent session) = refl
attached setup now number (NoReply session) = refl
attached setup now number Restart = refl

contents_kept : (setup : SmfSetup) → IsKept setup Both moves_of
contents_kept setup = record {
  next = λ now number event s t is new h. ((kept setup).next now number event s t is new h.0, next_by (touches event s) event setup now t s refl new h);
  added = λ now number event. attached setup now number event;
}

contents_with : (t : List Move) (o : Option Session) → With Both t o → AreContents t
contents_with t None h = subst AreContents (sym h) tt
contents_with t (Some s) h = h.1

pub contents_run : (setup : SmfSetup) (events : List SmfEvent) (number : ℕ) → AreContents (trace setup events number)
contents_run setup events number =
    subst AreContents (sym (trace_is setup events number))
    (contents_with (history moves_of setup events number) (session_of number (machine_after setup events).sessions) (over_all setup Both moves_of (contents_kept setup) events number))
