-- How far the sending of the unanswered request is, by the moves.
use Rattle.std.proofs.Common.{◌≡◌, ℕ, ◌-◌, ◌&&◌, Bool, true, false, cond, List, ◌∷◌, ◌++◌, refl, sym, ◌∙◌, ap, append_assoc}
use Rattle.std.specs.Prelude.{Option, Some, None, is_some}
use Rattle.units.specs.declared.trigger.TriggerType.TheVariants.{Final, AbnormalRelease}
use Rattle.units.specs.declared.request.Operation.{Operation}
use Rattle.units.specs.declared.request.Request.{Request}
use Rattle.units.specs.declared.reply.Reply.{Reply}
use Rattle.units.specs.declared.reply.Reply.TheVariants.{Created, Updated, Released, Refused}
use Rattle.sessions.specs.Trace.{Move, flight, is_unsent}
use Rattle.sessions.specs.Trace.Move.{Freezes, Attempts, Answers}
use Rattle.smf_model.specs.declared.setup.SmfSetup.{SmfSetup}
use Rattle.smf_model.specs.declared.session.Peer.{Peer}
use Rattle.smf_model.specs.declared.session.Loss.{Loss}
use Rattle.smf_model.specs.declared.session.Loss.TheVariants.{Unsent, Unanswered}
use Rattle.smf_model.specs.declared.session.Session.{Session}
use Rattle.smf_model.specs.declared.event.SmfEvent.{SmfEvent}
use Rattle.smf_model.specs.declared.event.SmfEvent.TheVariants.{Attach, Start, Count, Change, Tick, Detach, Answered, Attempt, NotSent as CameUnsent, NoReply as CameNoReply, Restart}
use Rattle.smf_model.specs.Settle.{settled}
use Rattle.smf_model.specs.Freeze.{waiting_count, next_operation, request_of, freeze_due, freeze_by, with_request}
use Rattle.smf_model.specs.Sent.{is_tried}
use Rattle.smf_model.specs.Sending.{marked, attempted, latest_peer, with_peer}
use Rattle.smf_model.specs.Traffic.{detached}
use Rattle.smf_model.specs.Rounds.{with_loss, lost}
use Rattle.smf_model.specs.Replies.{replied, answered_by}
use Rattle.smf_model.specs.Machine.{touches, effect, finished}
use Rattle.smf_model.specs.Trace.{closes_all, settle_moves, freeze_moves, freeze_moves_by, finish_moves, ending_moves, reply_moves, loss_move, lost_moves, effect_moves}
use Rattle.smf_model.proofs.Losing.{KeptByLoss, lost_kept, still_asked}
use Rattle.smf_model.proofs.Lifting.{IsNew}
use Rattle.smf_model.proofs.Placed.{LeavesRequests, closes_leave, drops_leave}

-- an attempt is in flight where the moves say so, and then a request is unanswered; of that request each attempt that ended did not leave where
-- they say so, and it is marked where it had an attempt
pub record Sends (t : List Move) (s : Session) : Type 0 where
  pub flight : s.sending.in_flight ≡ is_some (flight t)
  pub unsent : is_some s.request ≡ true → s.sending.unsent ≡ is_unsent t
  pub asked : s.sending.in_flight ≡ true → is_some s.request ≡ true
  pub tried : is_some s.request ≡ true → is_some s.sending.latest ≡ is_tried t
  pub mark : (q : Request) → s.request ≡ Some q → q.again ≡ is_some s.sending.latest

pub left_sends : (t u : List Move) (s v : Session) → LeavesRequests t u → v.request ≡ s.request → v.sending ≡ s.sending → Sends t s → Sends u v
left_sends t u s v l request sending h = record {
  flight = ap (λ x. x.in_flight) sending ∙ h.flight ∙ ap is_some (sym l.flight);
  unsent = λ e. ap (λ x. x.unsent) sending ∙ h.unsent (ap is_some (sym request) ∙ e) ∙ sym l.unsent;
  asked = λ e. ap is_some request ∙ h.asked (ap (λ x. x.in_flight) (sym sending) ∙ e);
  tried = λ e. ap (λ x. is_some x.latest) sending ∙ h.tried (ap is_some (sym request) ∙ e) ∙ sym l.tried;
  mark = λ q is. h.mark q (sym request ∙ is) ∙ ap (λ x. is_some x.latest) (sym sending);
}

same_sends : (t : List Move) (s v : Session) → v.request ≡ s.request → v.sending ≡ s.sending → Sends t s → Sends t v
same_sends t s v request sending h = left_sends t t s v (record { requests = refl; phase = refl; unanswered = refl; flight = refl; unsent = refl; tried = refl }) request sending h

pub asking_sends : (setup : SmfSetup) (now : ℕ) (o : Operation) (t : List Move) (s : Session) → Sends (Freezes (request_of setup now s o) ∷ t) (with_request setup now o s)
asking_sends setup now o t s = record {
  flight = refl;
  unsent = λ e. refl;
  asked = λ e. refl;
  tried = λ e. refl;
  mark = λ q is. let f : request_of setup now s o ≡ q = cc in ap (λ (x : Request). x.again) (sym f);
}

freeze_sends : (next : Option Operation) (setup : SmfSetup) (now : ℕ) (t : List Move) (s : Session) → Sends t s → Sends (freeze_moves_by setup now s next ++ t) (freeze_by setup now next s)
freeze_sends None setup now t s h = h
freeze_sends (Some o) setup now t s h = asking_sends setup now o t s

pub settled_sends : (setup : SmfSetup) (now : ℕ) (t : List Move) (s : Session) → Sends t s → Sends (settle_moves setup now s ++ t) (settled setup now s)
settled_sends setup now t s h = left_sends t (settle_moves setup now s ++ t) s (settled setup now s) (closes_leave now _ t s.holdings) refl refl h

pub finished_sends : (setup : SmfSetup) (now : ℕ) (t : List Move) (s : Session) → Sends t s → Sends (finish_moves setup now s ++ t) (finished setup now s)
finished_sends setup now t s h =
    let v : Session = settled setup now s in
    let w : Session = freeze_due setup now v in
    let c : List Move = settle_moves setup now s in
    let f : List Move = freeze_moves setup now v in
    let closed : Sends (c ++ t) v = settled_sends setup now t s h in
    let k : Sends (f ++ (c ++ t)) w = freeze_sends (next_operation setup v) setup now (c ++ t) v closed in
    rw (append_assoc, append_assoc) (left_sends (f ++ (c ++ t)) _ w (finished setup now s) (drops_leave (f ++ (c ++ t)) w.holdings (waiting_count w.holdings - setup.held_max)) refl refl k)

replied_sends : (now stamp : ℕ) (p : Reply) (t : List Move) (s : Session) → Sends (Answers p ∷ t) (replied now stamp p s)
replied_sends now stamp (Created reference answer) t s = record { flight = refl; unsent = λ e. cc; asked = λ e. cc; tried = λ e. cc; mark = λ q is. cc }
replied_sends now stamp (Updated answer) t s = record { flight = refl; unsent = λ e. cc; asked = λ e. cc; tried = λ e. cc; mark = λ q is. cc }
replied_sends now stamp Released t s = record { flight = refl; unsent = λ e. cc; asked = λ e. cc; tried = λ e. cc; mark = λ q is. cc }
replied_sends now stamp (Refused problem) t s = record { flight = refl; unsent = λ e. cc; asked = λ e. cc; tried = λ e. cc; mark = λ q is. cc }

answered_sends : (now : ℕ) (p : Reply) (o : Option Request) (t : List Move) (s : Session) → Sends t s → Sends (reply_moves now p o s ++ t) (answered_by now p o s)
answered_sends now p None t s h = h
answered_sends now p (Some q) t s h = same_sends (reply_moves now p (Some q) s ++ t) (replied now q.stamp p s) (with_peer (latest_peer s) (replied now q.stamp p s)) refl refl (replied_sends now q.stamp p (ending_moves now p s ++ t) s)

detached_sends : (abnormal : Bool) (moment : ℕ) (t : List Move) (s : Session) → Sends t s → Sends (closes_all moment (cond abnormal AbnormalRelease Final) s ++ t) (detached abnormal moment s)
detached_sends true moment t s h = left_sends t (closes_all moment AbnormalRelease s ++ t) s (detached true moment s) (closes_leave moment _ t s.holdings) refl refl h
detached_sends false moment t s h = left_sends t (closes_all moment Final s ++ t) s (detached false moment s) (closes_leave moment _ t s.holdings) refl refl h

marked_again : (o : Option Request) (q : Request) → marked o ≡ Some q → q.again ≡ true
marked_again None q is = cc
marked_again (Some p) q is = let f : record p { again = true } ≡ q = cc in ap (λ (x : Request). x.again) (sym f)

attempted_sends : (peer : Peer) (t : List Move) (s : Session) → is_some s.request ≡ true → Sends t s → Sends (Attempts ∷ t) (attempted peer s)
attempted_sends peer t s asked h = record {
  flight = refl;
  unsent = λ e. h.unsent asked;
  asked = λ e. still_asked s.request ∙ asked;
  tried = λ e. refl;
  mark = λ q is. marked_again s.request q is;
}

-- the end of an attempt
and_true : (b : Bool) → (b && true) ≡ b
and_true true = refl
and_true false = refl

and_false : (b : Bool) → (b && false) ≡ false
and_false true = refl
and_false false = refl

pub ended_sends : (loss : Loss) (t : List Move) (s : Session) → Sends t s → Sends (loss_move loss ∷ t) (with_loss loss s)
ended_sends Unsent t s h = record { flight = refl; unsent = λ e. and_true s.sending.unsent ∙ h.unsent e; asked = λ e. cc; tried = h.tried; mark = h.mark }
ended_sends Unanswered t s h = record { flight = refl; unsent = λ e. and_false s.sending.unsent; asked = λ e. cc; tried = h.tried; mark = h.mark }

pub sends_by_loss : KeptByLoss Sends (λ o. Unit {0})
sends_by_loss = record {
  sends = λ x t s latest flies unsent h. record { flight = flies ∙ h.flight; unsent = λ e. unsent ∙ h.unsent e; asked = λ e. h.asked (sym flies ∙ e); tried = λ e. ap is_some latest ∙ h.tried e; mark = λ q is. h.mark q is ∙ ap is_some (sym latest) };
  continues = λ t s h. same_sends t s _ refl refl h;
  breaks = λ now t s live h. left_sends t (closes_all now AbnormalRelease s ++ t) s _ (closes_leave now _ t s.holdings) refl refl h;
  gives_up = λ now t s landed unsent asked h. record {
    flight = sym landed ∙ h.flight ∙ ap is_some (sym (closes_leave now _ t s.holdings).flight);
    unsent = λ e. cc;
    asked = λ e. cc;
    tried = λ e. cc;
    mark = λ q is. cc;
  };
}

lost_sends : (setup : SmfSetup) (now : ℕ) (loss : Loss) (t : List Move) (s : Session) → Sends t s → Sends (lost_moves now loss s ++ t) (lost setup now loss s)
lost_sends setup now loss t s h = lost_kept Sends (λ o. Unit {0}) sends_by_loss setup now loss t s tt (ended_sends loss t s h)

pub effect_sends : (event : SmfEvent) (setup : SmfSetup) (now : ℕ) (t : List Move) (s : Session) → touches event s ≡ true → IsNew event s → Sends t s → Sends (effect_moves now event s ++ t) (effect setup now event s)
effect_sends (Attach session subscriber groups moment) setup now t s on new h = h
effect_sends (Start session group moment) setup now t s on new h = same_sends t s _ refl refl h
effect_sends (Count session r) setup now t s on new h = left_sends t _ s _ (closes_leave r.moment _ t s.holdings) refl refl h
effect_sends (Change session trigger moment) setup now t s on new h = left_sends t _ s _ (closes_leave moment _ t s.holdings) refl refl h
effect_sends (Tick moment) setup now t s on new h = h
effect_sends (Detach session abnormal moment) setup now t s on new h = detached_sends abnormal moment t s h
effect_sends (Answered session number reply) setup now t s on new h = answered_sends now reply s.request t s h
effect_sends (Attempt session peer) setup now t s on new h = attempted_sends peer t s (new on).0 h
effect_sends (CameUnsent session) setup now t s on new h = lost_sends setup now Unsent t s h
effect_sends (CameNoReply session) setup now t s on new h = lost_sends setup now Unanswered t s h
effect_sends Restart setup now t s on new h = lost_sends setup now Unanswered t s h
