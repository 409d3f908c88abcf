-- A session that is not live stays so, and its gates are closed.
use Rattle.std.proofs.Common.{◌≡◌, ℕ, ◌==◌, Bool, true, false, cond, List, [], ◌∷◌, ◌++◌, map, refl, sym, ap, subst}
use Rattle.std.specs.Prelude.{Option, Some, None, Result, Ok, Err}
use Rattle.units.specs.declared.request.Operation.{Operation}
use Rattle.units.specs.declared.request.Request.{Request}
use Rattle.units.specs.declared.reply.Reply.{Reply}
use Rattle.units.specs.declared.reply.Reply.TheVariants.{Created, Updated, Released, Refused}
use Rattle.quotas.specs.declared.state.Gate.TheVariants.{Closed}
use Rattle.smf_model.specs.declared.setup.SmfSetup.{SmfSetup}
use Rattle.smf_model.specs.declared.session.Loss.{Loss}
use Rattle.smf_model.specs.declared.session.Loss.TheVariants.{Unsent, Unanswered}
use Rattle.smf_model.specs.declared.session.Session.{Session}
use Rattle.smf_model.specs.declared.session.Machine.{Machine}
use Rattle.smf_model.specs.declared.event.SmfEvent.{SmfEvent}
use Rattle.smf_model.specs.declared.event.SmfEvent.TheVariants.{Attach, Start, Count, Change, Tick, Detach, Answered, Attempt, NotSent, NoReply, Restart}
use Rattle.smf_model.specs.declared.refusal.Seen.{Seen}
use Rattle.smf_model.specs.declared.refusal.Seen.TheVariants.{New, Known}
use Rattle.smf_model.specs.declared.refusal.SmfRefusal.{SmfRefusal}
use Rattle.smf_model.specs.Settle.{settled, entry_of}
use Rattle.smf_model.specs.Freeze.{next_operation, freeze_by}
use Rattle.smf_model.specs.Rounds.{lost}
use Rattle.smf_model.specs.Replies.{answered_by}
use Rattle.smf_model.specs.Machine.{machine_after, answer_of, after_answer, now_after, next_session, session_of, touches, effect, finished, is_live, gate_in}
use Rattle.smf_model.specs.Left.{IsClosed, StaysClosed}
use Rattle.smf_model.proofs.Runs.{number-next}
use Rattle.smf_model.proofs.Losing.{KeptByLoss, lost_kept}

-- what is not live is not live after
abbrev On : Session → Session → Type 0
On s v = is_live s.life ≡ false → is_live v.life ≡ false

on_freeze : (next : Option Operation) (setup : SmfSetup) (now : ℕ) (s : Session) → On s (freeze_by setup now next s)
on_freeze None setup now s h = h
on_freeze (Some o) setup now s h = h

on_finish : (setup : SmfSetup) (now : ℕ) (s : Session) → On s (finished setup now s)
on_finish setup now s = on_freeze (next_operation setup (settled setup now s)) setup now (settled setup now s)

on_answered : (now : ℕ) (p : Reply) (q : Option Request) (s : Session) → On s (answered_by now p q s)
on_answered now p None s h = h
on_answered now (Created reference answer) (Some q) s h = h
on_answered now (Updated answer) (Some q) s h = h
on_answered now Released (Some q) s h = refl
on_answered now (Refused problem) (Some q) s h = refl

not_live_by_loss : KeptByLoss (λ t s. is_live s.life ≡ false) (λ o. Unit {0})
not_live_by_loss = record {
  sends = λ x t s latest flies unsent h. h;
  continues = λ t s h. h;
  breaks = λ now t s live h. refl;
  gives_up = λ now t s landed unsent asked h. refl;
}

on_lost : (setup : SmfSetup) (now : ℕ) (loss : Loss) (s : Session) → On s (lost setup now loss s)
on_lost setup now loss s h = lost_kept (λ t x. is_live x.life ≡ false) (λ o. Unit {0}) not_live_by_loss setup now loss [] s tt h

on_cond : (b : Bool) (s x y : Session) → On s x → On s y → On s (cond b x y)
on_cond true s x y h k = h
on_cond false s x y h k = k

on_effect : (event : SmfEvent) (setup : SmfSetup) (now : ℕ) (s : Session) → On s (effect setup now event s)
on_effect (Attach session subscriber groups moment) setup now s h = h
on_effect (Start session group moment) setup now s h = h
on_effect (Count session r) setup now s h = h
on_effect (Change session trigger moment) setup now s h = h
on_effect (Tick moment) setup now s h = h
on_effect (Detach session true moment) setup now s h = refl
on_effect (Detach session false moment) setup now s h = refl
on_effect (Answered session place reply) setup now s h = on_answered now reply s.request s h
on_effect (Attempt session peer) setup now s h = h
on_effect (NotSent session) setup now s h = on_lost setup now Unsent s h
on_effect (NoReply session) setup now s h = on_lost setup now Unanswered s h
on_effect Restart setup now s h = on_lost setup now Unanswered s h

on_next : (event : SmfEvent) (setup : SmfSetup) (now : ℕ) (s : Session) → On s (next_session setup now event s)
on_next event setup now s = on_cond (touches event s) s _ s (λ h. on_finish setup now (effect setup now event s) (on_effect event setup now s h)) (λ h. h)

-- machines

closed_now : (s : Session) → is_live s.life ≡ false → IsClosed s
closed_now s h = record { ends = h; gates = λ group. ap (λ b. cond b (gate_in (entry_of group s.groups)) Closed) h }

found_at : (b : Bool) (x y : Session) (rest others : Option Session) → On x y → StaysClosed rest others → StaysClosed (cond b (Some x) rest) (cond b (Some y) others)
found_at true x y rest others h k = λ e. closed_now y (h e)
found_at false x y rest others h k = k

found_closed : (number : ℕ) (f : Session → Session) (xs ys : List Session) → ((s : Session) → (f s).number ≡ s.number) → ((s : Session) → On s (f s)) → StaysClosed (session_of number xs) (session_of number (map f xs ++ ys))
found_closed number f [] ys same on = tt
found_closed number f (x ∷ xs) ys same on =
    let P : Bool → Type 0 = λ b. StaysClosed (session_of number (x ∷ xs)) (cond b (Some (f x)) (session_of number (map f xs ++ ys))) in
    subst P (ap (λ n. n == number) (sym (same x))) (found_at (x.number == number) x (f x) _ _ (on x) (found_closed number f xs ys same on))

same_session : (o : Option Session) → StaysClosed o o
same_session None = tt
same_session (Some s) = closed_now s

session_then : (a b c : Option Session) → StaysClosed a b → StaysClosed b c → StaysClosed a c
session_then None b c h k = tt
session_then (Some s) None c h k = λ e. absurd (h e)
session_then (Some s) (Some t) c h k = λ e. k (h e).ends

step_closed : (r : Result Seen SmfRefusal) (m : Machine) (event : SmfEvent) (number : ℕ) → StaysClosed (session_of number m.sessions) (session_of number (after_answer m event r).sessions)
step_closed (Ok New) m event number = found_closed number (next_session m.setup (now_after m.moment event) event) m.sessions _ (number-next event m.setup (now_after m.moment event)) (on_next event m.setup (now_after m.moment event))
step_closed (Ok Known) m event number = same_session (session_of number m.sessions)
step_closed (Err e) m event number = same_session (session_of number m.sessions)

pub closed_run : (setup : SmfSetup) (more events : List SmfEvent) (number : ℕ) → StaysClosed (session_of number (machine_after setup events).sessions) (session_of number (machine_after setup (more ++ events)).sessions)
closed_run setup [] events number = same_session _
closed_run setup (event ∷ more) events number = session_then _ _ _ (closed_run setup more events number) (step_closed (answer_of (machine_after setup (more ++ events)) event) (machine_after setup (more ++ events)) event number)
