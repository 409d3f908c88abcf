-- After any events each session is as its moves leave it.
use Rattle.std.proofs.Common.{◌≡◌, ℕ, ◌==◌, List, [], ◌∷◌, ◌++◌, map, refl, sym, ◌∙◌, ap, subst, Bool, true, false, cond, append-nil}
use Rattle.std.specs.Prelude.{Option, Some, None, Result, Ok, Err}
use Rattle.units.specs.declared.request.Operation.{Operation}
use Rattle.units.specs.declared.request.Operation.TheVariants.{Create}
use Rattle.units.specs.declared.request.Request.{Request}
use Rattle.units.specs.declared.trigger.TriggerType.TheVariants.{Final, AbnormalRelease}
use Rattle.units.specs.declared.reply.Reply.{Reply}
use Rattle.units.specs.declared.reply.Reply.TheVariants.{Created, Updated, Released, Refused}
use Rattle.sessions.specs.Trace.{Move}
use Rattle.smf_model.specs.declared.setup.SmfSetup.{SmfSetup}
use Rattle.smf_model.specs.declared.session.Life.TheVariants.{Ending, Aborting}
use Rattle.smf_model.specs.declared.session.Loss.{Loss}
use Rattle.smf_model.specs.declared.session.Loss.TheVariants.{Unsent, Unanswered}
use Rattle.smf_model.specs.declared.session.Session.{Session}
use Rattle.smf_model.specs.declared.session.Machine.{Machine}
use Rattle.smf_model.specs.declared.event.SmfEvent.{SmfEvent}
use Rattle.smf_model.specs.declared.event.SmfEvent.TheVariants.{Attach, Start, Count, Change, Tick, Detach, Answered, Attempt, NotSent, NoReply, Restart}
use Rattle.smf_model.specs.declared.refusal.Seen.{Seen}
use Rattle.smf_model.specs.declared.refusal.Seen.TheVariants.{New, Known}
use Rattle.smf_model.specs.declared.refusal.SmfRefusal.{SmfRefusal}
use Rattle.smf_model.specs.Settle.{settled}
use Rattle.smf_model.specs.Freeze.{with_request, freeze_by, next_operation}
use Rattle.smf_model.specs.Traffic.{without_traffic}
use Rattle.smf_model.specs.Rounds.{lost}
use Rattle.smf_model.specs.Replies.{answered_by}
use Rattle.smf_model.specs.Machine.{machine_after, answer_of, after_answer, now_after, next_session, session_of, added_by, fresh, finished, touches, effect}
use Rattle.smf_model.specs.Trace.{Agrees, AgreesWith, trace, moves_of, moves_if, added_moves}
use Rattle.smf_model.proofs.Losing.{KeptByLoss, lost_kept}
use Rattle.smf_model.proofs.Agreement.{next_agrees, finished_agrees, with_request_agrees}

same_cond : (b : Bool) (x y : Session) (n : ℕ) → x.number ≡ n → y.number ≡ n → (cond b x y).number ≡ n
same_cond true x y n hx hy = hx
same_cond false x y n hx hy = hy

same_freeze : (next : Option Operation) (setup : SmfSetup) (now : ℕ) (s : Session) → (freeze_by setup now next s).number ≡ s.number
same_freeze None setup now s = refl
same_freeze (Some o) setup now s = refl

same_finished : (setup : SmfSetup) (now : ℕ) (s : Session) → (finished setup now s).number ≡ s.number
same_finished setup now s = same_freeze (next_operation setup (settled setup now s)) setup now (settled setup now s)

same_answered : (now : ℕ) (p : Reply) (q : Option Request) (s : Session) → (answered_by now p q s).number ≡ s.number
same_answered now p None s = refl
same_answered now (Created reference answer) (Some q) s = refl
same_answered now (Updated answer) (Some q) s = refl
same_answered now Released (Some q) s = refl
same_answered now (Refused problem) (Some q) s = refl

number_by_loss : (number : ℕ) → KeptByLoss (λ t s. s.number ≡ number) (λ o. Unit {0})
number_by_loss number = record {
  sends = λ x t s latest flies unsent h. h;
  continues = λ t s h. h;
  breaks = λ now t s live h. h;
  gives_up = λ now t s landed unsent asked h. h;
}

same_lost : (setup : SmfSetup) (now : ℕ) (loss : Loss) (s : Session) → (lost setup now loss s).number ≡ s.number
same_lost setup now loss s = lost_kept (λ t x. x.number ≡ s.number) (λ o. Unit {0}) (number_by_loss s.number) setup now loss [] s tt refl

pub same_effect : (event : SmfEvent) (setup : SmfSetup) (now : ℕ) (s : Session) → (effect setup now event s).number ≡ s.number
same_effect (Attach session subscriber groups moment) setup now s = refl
same_effect (Start session group moment) setup now s = refl
same_effect (Count session r) setup now s = refl
same_effect (Change session trigger moment) setup now s = refl
same_effect (Tick moment) setup now s = refl
same_effect (Detach session abnormal moment) setup now s = same_cond abnormal (without_traffic Aborting moment AbnormalRelease s) (without_traffic Ending moment Final s) s.number refl refl
same_effect (Answered session number reply) setup now s = same_answered now reply s.request s
same_effect (Attempt session peer) setup now s = refl
same_effect (NotSent session) setup now s = same_lost setup now Unsent s
same_effect (NoReply session) setup now s = same_lost setup now Unanswered s
same_effect Restart setup now s = same_lost setup now Unanswered s

-- a step keeps each session's number
pub number-next : (event : SmfEvent) (setup : SmfSetup) (now : ℕ) (s : Session) → (next_session setup now event s).number ≡ s.number
number-next event setup now s = same_cond (touches event s) _ _ s.number (same_finished setup now (effect setup now event s) ∙ same_effect event setup now s) refl

found_at : (b : Bool) (t : List Move) (moves : Option Session → List Move) (x y : Session) (rest others : Option Session)
    → AgreesWith t (cond b (Some x) rest) → (Agrees t x → Agrees (moves (Some x) ++ t) y) → (AgreesWith t rest → AgreesWith (moves rest ++ t) others)
    → AgreesWith (moves (cond b (Some x) rest) ++ t) (cond b (Some y) others)
found_at true t moves x y rest others h here further = here h
found_at false t moves x y rest others h here further = further h

-- what is found after each session took its step
found : (number : ℕ) (f : Session → Session) (xs ys : List Session) → ((s : Session) → (f s).number ≡ s.number) → (t : List Move) (moves : Option Session → List Move)
    → AgreesWith t (session_of number xs) → ((s : Session) → Agrees t s → Agrees (moves (Some s) ++ t) (f s)) → (t ≡ [] → AgreesWith (moves None ++ t) (session_of number ys))
    → AgreesWith (moves (session_of number xs) ++ t) (session_of number (map f xs ++ ys))
found number f [] ys same t moves h here new = new h
found number f (x ∷ xs) ys same t moves h here new =
    let P : Bool → Type 0 = λ b. AgreesWith (moves (session_of number (x ∷ xs)) ++ t) (cond b (Some (f x)) (session_of number (map f xs ++ ys))) in
    subst P (ap (λ n. n == number) (sym (same x))) (found_at (x.number == number) t moves x (f x) (session_of number xs) (session_of number (map f xs ++ ys)) h (here x) (λ k. found number f xs ys same t moves k here new))

fresh_agrees : (setup : SmfSetup) (number : ℕ) (subscriber groups : List ℕ) (moment : ℕ) → Agrees [] (fresh setup number subscriber groups moment)
fresh_agrees setup number subscriber groups moment = record { count = refl; unanswered = refl; numbered = tt; when_idle = tt; idle = λ _ _. refl }

attached_at : (b : Bool) (m : List Move) (s : Session) → Agrees m s → AgreesWith (cond b m [] ++ []) (cond b (Some s) None)
attached_at true m s h = rw append-nil h
attached_at false m s h = refl

attached : (setup : SmfSetup) (now number : ℕ) (event : SmfEvent) → AgreesWith (added_moves setup now number event ++ []) (session_of number (added_by setup now event))
attached setup now number (Attach session subscriber groups moment) =
    let s : Session = with_request setup now Create (fresh setup session subscriber groups moment) in
    let P : Bool → Type 0 = λ b. AgreesWith (added_moves setup now number (Attach session subscriber groups moment) ++ []) (cond b (Some (finished setup now s)) None) in
    subst P (ap (λ n. n == number) (sym (same_finished setup now s)))
    (attached_at (session == number) _ _ (finished_agrees setup now _ _ (with_request_agrees setup now Create [] (fresh setup session subscriber groups moment) (fresh_agrees setup session subscriber groups moment) refl)))
attached setup now number (Start session group moment) = refl
attached setup now number (Count session r) = refl
attached setup now number (Change session trigger moment) = refl
attached setup now number (Tick moment) = refl
attached setup now number (Detach session abnormal moment) = refl
attached setup now number (Answered session n reply) = refl
attached setup now number (Attempt session peer) = refl
attached setup now number (NotSent session) = refl
attached setup now number (NoReply session) = refl
attached setup now number Restart = refl

run_by : (r : Result Seen SmfRefusal) (m : Machine) (event : SmfEvent) (number : ℕ) (t : List Move) → AgreesWith t (session_of number m.sessions)
    → AgreesWith (moves_if m number event r ++ t) (session_of number (after_answer m event r).sessions)
run_by (Ok New) m event number t h =
    let now = now_after m.moment event in
    found number (next_session m.setup now event) m.sessions (added_by m.setup now event) (number-next event m.setup now) t (moves_of m.setup now number event) h
    (λ s a. next_agrees event m.setup now t s a)
    (λ none. rw none (attached m.setup now number event))
run_by (Ok Known) m event number t h = h
run_by (Err e) m event number t h = h

pub run : (setup : SmfSetup) (events : List SmfEvent) (number : ℕ) → AgreesWith (trace setup events number) (session_of number (machine_after setup events).sessions)
run setup [] number = refl
run setup (event ∷ events) number = let m = machine_after setup events in run_by (answer_of m event) m event number (trace setup events number) (run setup events number)
