-- Each part of an event leaves a session as its moves say.
use Rattle.std.proofs.Common.{◌≡◌, ℕ, ◌-◌, ◌==◌, ◌&&◌, List, [], ◌∷◌, ◌++◌, map, refl, sym, ◌∙◌, ap, arith, Bool, true, false, cond, nat_lt, append_assoc}
use Rattle.std.specs.Prelude.{Option, Some, None, is_some}
use Rattle.units.specs.declared.trigger.TriggerType.{TriggerType}
use Rattle.units.specs.declared.trigger.TriggerType.TheVariants.{AbnormalRelease}
use Rattle.units.specs.declared.request.Operation.{Operation}
use Rattle.units.specs.declared.request.Request.{Request}
use Rattle.units.specs.declared.reply.Reply.{Reply}
use Rattle.units.specs.declared.reply.Reply.TheVariants.{Created, Updated, Released, Refused}
use Rattle.sessions.specs.Trace.{Move}
use Rattle.sessions.specs.Trace.Move.{Closes, Drops, Freezes, Attempts, NotSent, NoReply, GivesUp, Answers}
use Rattle.smf_model.specs.declared.setup.SmfSetup.{SmfSetup}
use Rattle.smf_model.specs.declared.session.Life.{Life}
use Rattle.smf_model.specs.declared.session.Life.TheVariants.{Live, Ending, Aborting, Ended}
use Rattle.smf_model.specs.declared.session.Peer.{Peer}
use Rattle.smf_model.specs.declared.session.Loss.{Loss}
use Rattle.smf_model.specs.declared.session.Loss.TheVariants.{Unsent, Unanswered}
use Rattle.smf_model.specs.declared.session.Holding.{Holding}
use Rattle.smf_model.specs.declared.session.Session.{Session}
use Rattle.smf_model.specs.declared.event.SmfEvent.{SmfEvent}
use Rattle.smf_model.specs.declared.event.SmfEvent.TheVariants.{Attach, Start, Count, Change, Tick, Detach, Answered, Attempt, NotSent as CameUnsent, NoReply as CameNoReply, Restart}
use Rattle.smf_model.specs.Settle.{is_waiting, settled}
use Rattle.smf_model.specs.Freeze.{waiting_count, next_operation, operation_in, request_of, freeze_due, freeze_by, with_request}
use Rattle.smf_model.specs.Traffic.{counted, started, changed, detached}
use Rattle.smf_model.specs.Sending.{unmarked, attempted, latest_peer, with_peer}
use Rattle.smf_model.specs.Rounds.{with_loss, continue_entry, lost}
use Rattle.smf_model.specs.Replies.{replied, answered_by}
use Rattle.smf_model.specs.Machine.{is_live, is_ended, touches, effect, finished, next_session}
use Rattle.smf_model.specs.Trace.{close_moves, closes_of, closes_all, settle_moves, freeze_moves, freeze_moves_by, drop_moves, finish_moves, ending_moves, reply_moves, loss_move, lost_moves, effect_moves, session_moves, is_idle, Agrees}
use Rattle.smf_model.proofs.Losing.{KeptByLoss, lost_kept, same_content, still_asked}

-- closes, drops and attempts with their ends alone
abbrev pub AreQuiet : List Move → Type 0
AreQuiet [] = Unit {0}
AreQuiet (Closes c ∷ ms) = AreQuiet ms
AreQuiet (Drops lsn ∷ ms) = AreQuiet ms
AreQuiet (Freezes q ∷ ms) = ⊥
AreQuiet (Attempts ∷ ms) = AreQuiet ms
AreQuiet (NotSent ∷ ms) = AreQuiet ms
AreQuiet (NoReply ∷ ms) = AreQuiet ms
AreQuiet (GivesUp ∷ ms) = ⊥
AreQuiet (Answers p ∷ ms) = ⊥

with_closes : (moment : ℕ) (h : Holding) (o : Option TriggerType) (ms : List Move) → AreQuiet ms → AreQuiet (close_moves moment h o ++ ms)
with_closes moment h None ms q = q
with_closes moment h (Some trigger) ms q = q

closes_quiet : (moment : ℕ) (closing : Holding → Option TriggerType) (hs : List Holding) → AreQuiet (closes_of moment closing hs)
closes_quiet moment closing [] = tt
closes_quiet moment closing (h ∷ hs) = with_closes moment h (closing h) _ (closes_quiet moment closing hs)

with_drop : (b : Bool) (lsn : ℕ) (xs ys : List Move) → AreQuiet xs → AreQuiet ys → AreQuiet (cond b (Drops lsn ∷ xs) ys)
with_drop true lsn xs ys qx qy = qx
with_drop false lsn xs ys qx qy = qy

drops_quiet : (most : ℕ) (hs : List Holding) → AreQuiet (drop_moves most hs)
drops_quiet most [] = tt
drops_quiet most (h ∷ hs) = with_drop (is_waiting h.place && nat_lt 0 most) h.container.lsn _ _ (drops_quiet (most - 1) hs) (drops_quiet most hs)

-- they leave the session as it is
passes_one : (m : Move) (t : List Move) (s : Session) → AreQuiet (m ∷ []) → Agrees t s → Agrees (m ∷ t) s
passes_one (Closes c) t s q h = record { count = h.count; unanswered = h.unanswered; numbered = h.numbered; when_idle = h.when_idle; idle = h.idle }
passes_one (Drops lsn) t s q h = record { count = h.count; unanswered = h.unanswered; numbered = h.numbered; when_idle = h.when_idle; idle = h.idle }
passes_one (Freezes r) t s q h = absurd q
passes_one Attempts t s q h = record { count = h.count; unanswered = h.unanswered; numbered = h.numbered; when_idle = h.when_idle; idle = h.idle }
passes_one NotSent t s q h = record { count = h.count; unanswered = h.unanswered; numbered = h.numbered; when_idle = h.when_idle; idle = h.idle }
passes_one NoReply t s q h = record { count = h.count; unanswered = h.unanswered; numbered = h.numbered; when_idle = h.when_idle; idle = h.idle }
passes_one GivesUp t s q h = absurd q
passes_one (Answers p) t s q h = absurd q

pub passes : (ms t : List Move) (s : Session) → AreQuiet ms → Agrees t s → Agrees (ms ++ t) s
passes [] t s q h = h
passes (Closes c ∷ ms) t s q h = passes_one (Closes c) (ms ++ t) s tt (passes ms t s q h)
passes (Drops lsn ∷ ms) t s q h = passes_one (Drops lsn) (ms ++ t) s tt (passes ms t s q h)
passes (Freezes r ∷ ms) t s q h = absurd q
passes (Attempts ∷ ms) t s q h = passes_one Attempts (ms ++ t) s tt (passes ms t s q h)
passes (NotSent ∷ ms) t s q h = passes_one NotSent (ms ++ t) s tt (passes ms t s q h)
passes (NoReply ∷ ms) t s q h = passes_one NoReply (ms ++ t) s tt (passes ms t s q h)
passes (GivesUp ∷ ms) t s q h = absurd q
passes (Answers p ∷ ms) t s q h = absurd q

-- a request is frozen only where none is unanswered, and of no ended session
may_freeze : (b : Bool) (setup : SmfSetup) (s : Session) (l : Life) (o : Operation) → cond b None (operation_in setup s l) ≡ Some o → (b ≡ false) × (is_ended l ≡ false)
may_freeze true setup s l o h = cc
may_freeze false setup s Live o h = (refl, refl)
may_freeze false setup s Ending o h = (refl, refl)
may_freeze false setup s Aborting o h = (refl, refl)
may_freeze false setup s Ended o h = cc

pub with_request_agrees : (setup : SmfSetup) (now : ℕ) (o : Operation) (t : List Move) (s : Session) → Agrees t s → is_idle t ≡ true → Agrees (Freezes (request_of setup now s o) ∷ t) (with_request setup now o s)
with_request_agrees setup now o t s h ready = record {
  count = omega (arith, h.count);
  unanswered = refl;
  numbered = (omega (arith, h.count), h.numbered);
  when_idle = (ready, h.when_idle);
  idle = λ none _. cc;
}

freeze_agrees_by : (next : Option Operation) (setup : SmfSetup) (now : ℕ) (t : List Move) (s : Session) → next_operation setup s ≡ next → Agrees t s → Agrees (freeze_moves_by setup now s next ++ t) (freeze_by setup now next s)
freeze_agrees_by None setup now t s e h = h
freeze_agrees_by (Some o) setup now t s e h =
    let free = may_freeze (is_some s.request) setup s s.life o e in
    with_request_agrees setup now o t s h (h.idle free.0 free.1)

-- a session with the same count, request and life
same_agrees : (t : List Move) (s u : Session) → u.count ≡ s.count → u.request ≡ s.request → u.life ≡ s.life → Agrees t s → Agrees t u
same_agrees t s u count request same h = record {
  count = count ∙ h.count;
  unanswered = ap unmarked request ∙ h.unanswered;
  numbered = h.numbered;
  when_idle = h.when_idle;
  idle = λ none live. h.idle (ap is_some (sym request) ∙ none) (ap is_ended (sym same) ∙ live);
}

in_one : (d f c t : List Move) (s : Session) → Agrees (d ++ (f ++ (c ++ t))) s → Agrees ((d ++ (f ++ c)) ++ t) s
in_one d f c t s h = rw (append_assoc, append_assoc) h

pub finished_agrees : (setup : SmfSetup) (now : ℕ) (t : List Move) (s : Session) → Agrees t s → Agrees (finish_moves setup now s ++ t) (finished setup now s)
finished_agrees setup now t s h =
    let closed : Agrees (settle_moves setup now s ++ t) (settled setup now s) = same_agrees _ s (settled setup now s) refl refl refl (passes (settle_moves setup now s) t s (closes_quiet now _ s.holdings) h) in
    let frozen = freeze_agrees_by (next_operation setup (settled setup now s)) setup now (settle_moves setup now s ++ t) (settled setup now s) refl closed in
    let dropped_too = same_agrees _ (freeze_due setup now (settled setup now s)) (finished setup now s) refl refl refl frozen in
    let over : ℕ = waiting_count (freeze_due setup now (settled setup now s)).holdings - setup.held_max in
    let d : List Move = drop_moves over (freeze_due setup now (settled setup now s)).holdings in
    let f : List Move = freeze_moves setup now (settled setup now s) in
    let c : List Move = settle_moves setup now s in
    let all : Agrees (d ++ (f ++ (c ++ t))) (finished setup now s) = passes d (f ++ (c ++ t)) (finished setup now s) (drops_quiet over (freeze_due setup now (settled setup now s)).holdings) dropped_too in
    in_one d f c t (finished setup now s) all

-- Answers

replied_agrees : (now stamp : ℕ) (p : Reply) (t : List Move) (s : Session) → Agrees t s → Agrees (Answers p ∷ ending_moves now p s ++ t) (replied now stamp p s)
replied_agrees now stamp (Created reference answer) t s h = record { count = h.count; unanswered = refl; numbered = h.numbered; when_idle = h.when_idle; idle = λ _ _. refl }
replied_agrees now stamp (Updated answer) t s h = record { count = h.count; unanswered = refl; numbered = h.numbered; when_idle = h.when_idle; idle = λ _ _. refl }
replied_agrees now stamp Released t s h =
    let k = passes (closes_all now AbnormalRelease s) t s (closes_quiet now _ s.holdings) h in
    record { count = k.count; unanswered = refl; numbered = k.numbered; when_idle = k.when_idle; idle = λ _ live. cc }
replied_agrees now stamp (Refused problem) t s h =
    let k = passes (closes_all now AbnormalRelease s) t s (closes_quiet now _ s.holdings) h in
    record { count = k.count; unanswered = refl; numbered = k.numbered; when_idle = k.when_idle; idle = λ _ live. cc }

answered_agrees : (now : ℕ) (p : Reply) (q : Option Request) (t : List Move) (s : Session) → Agrees t s → Agrees (reply_moves now p q s ++ t) (answered_by now p q s)
answered_agrees now p None t s h = h
answered_agrees now p (Some q) t s h = same_agrees (reply_moves now p (Some q) s ++ t) (replied now q.stamp p s) (with_peer (latest_peer s) (replied now q.stamp p s)) refl refl refl (replied_agrees now q.stamp p t s h)

-- Detaching, of a live session

live_not_over : (l : Life) → is_live l ≡ true → is_ended l ≡ false
live_not_over Live h = refl
live_not_over Ending h = cc
live_not_over Aborting h = cc
live_not_over Ended h = cc

detached_agrees : (abnormal : Bool) (moment : ℕ) (t : List Move) (s : Session) → is_live s.life ≡ true → Agrees t s → Agrees t (detached abnormal moment s)
detached_agrees true moment t s live h = record { count = h.count; unanswered = h.unanswered; numbered = h.numbered; when_idle = h.when_idle; idle = λ none _. h.idle none (live_not_over s.life live) }
detached_agrees false moment t s live h = record { count = h.count; unanswered = h.unanswered; numbered = h.numbered; when_idle = h.when_idle; idle = λ none _. h.idle none (live_not_over s.life live) }

-- attempts and their ends

attempted_agrees : (peer : Peer) (t : List Move) (s : Session) → Agrees t s → Agrees (Attempts ∷ t) (attempted peer s)
attempted_agrees peer t s h = record {
  count = h.count;
  unanswered = same_content s.request ∙ h.unanswered;
  numbered = h.numbered;
  when_idle = h.when_idle;
  idle = λ none live. h.idle (sym (still_asked s.request) ∙ none) live;
}

loss_quiet : (loss : Loss) → AreQuiet (loss_move loss ∷ [])
loss_quiet Unsent = tt
loss_quiet Unanswered = tt

agrees_by_loss : KeptByLoss Agrees (λ o. Unit {0})
agrees_by_loss = record {
  sends = λ x t s latest flies unsent h. same_agrees t s (record s { sending = x }) refl refl refl h;
  continues = λ t s h. same_agrees t s (record s { groups = map continue_entry s.groups }) refl refl refl h;
  breaks = λ now t s live h.
      let k = passes (closes_all now AbnormalRelease s) t s (closes_quiet now _ s.holdings) h in
      record { count = k.count; unanswered = k.unanswered; numbered = k.numbered; when_idle = k.when_idle; idle = λ none _. k.idle none (live_not_over s.life live) };
  gives_up = λ now t s landed unsent asked h.
      let k = passes (closes_all now AbnormalRelease s) t s (closes_quiet now _ s.holdings) h in
      record { count = k.count; unanswered = refl; numbered = k.numbered; when_idle = k.when_idle; idle = λ _ live. cc };
}

lost_agrees : (setup : SmfSetup) (now : ℕ) (loss : Loss) (t : List Move) (s : Session) → Agrees t s → Agrees (lost_moves now loss s ++ t) (lost setup now loss s)
lost_agrees setup now loss t s h =
    lost_kept Agrees (λ o. Unit {0}) agrees_by_loss setup now loss t s tt (passes (loss_move loss ∷ []) t (with_loss loss s) (loss_quiet loss) (same_agrees t s (with_loss loss s) refl refl refl h))

second : (a b : Bool) → (a && b) ≡ true → b ≡ true
second true b h = h
second false b h = cc

effect_agrees : (event : SmfEvent) (setup : SmfSetup) (now : ℕ) (t : List Move) (s : Session) → touches event s ≡ true → Agrees t s → Agrees (effect_moves now event s ++ t) (effect setup now event s)
effect_agrees (Attach session subscriber groups moment) setup now t s on h = h
effect_agrees (Start session group moment) setup now t s on h = same_agrees t s (started group moment s) refl refl refl h
effect_agrees (Count session r) setup now t s on h = same_agrees _ s (counted r s) refl refl refl (passes _ t s (closes_quiet r.moment _ s.holdings) h)
effect_agrees (Change session trigger moment) setup now t s on h = same_agrees _ s (changed trigger moment s) refl refl refl (passes _ t s (closes_quiet moment _ s.holdings) h)
effect_agrees (Tick moment) setup now t s on h = h
effect_agrees (Detach session abnormal moment) setup now t s on h =
    detached_agrees abnormal moment _ s (second (s.number == session) _ on) (passes _ t s (closes_quiet moment _ s.holdings) h)
effect_agrees (Answered session number reply) setup now t s on h = answered_agrees now reply s.request t s h
effect_agrees (Attempt session peer) setup now t s on h = attempted_agrees peer t s h
effect_agrees (CameUnsent session) setup now t s on h = lost_agrees setup now Unsent t s h
effect_agrees (CameNoReply session) setup now t s on h = lost_agrees setup now Unanswered t s h
effect_agrees Restart setup now t s on h = lost_agrees setup now Unanswered t s h

next_agrees_by : (b : Bool) (event : SmfEvent) (setup : SmfSetup) (now : ℕ) (t : List Move) (s : Session) → touches event s ≡ b → Agrees t s
    → Agrees (cond b (finish_moves setup now (effect setup now event s) ++ effect_moves now event s) [] ++ t) (cond b (finished setup now (effect setup now event s)) s)
next_agrees_by true event setup now t s on h =
    rw append_assoc (finished_agrees setup now _ (effect setup now event s) (effect_agrees event setup now t s on h))
next_agrees_by false event setup now t s on h = h

pub next_agrees : (event : SmfEvent) (setup : SmfSetup) (now : ℕ) (t : List Move) (s : Session) → Agrees t s → Agrees (session_moves setup now event s ++ t) (next_session setup now event s)
next_agrees event setup now t s h = next_agrees_by (touches event s) event setup now t s refl h
