-- Each reply that is an answer is final for the unanswered request.
use Rattle.std.proofs.Common.{◌≡◌, ℕ, ◌==◌, ◌&&◌, Bool, true, false, cond, List, [], ◌∷◌, ◌++◌, length, refl, sym, ◌∙◌, subst, append_assoc}
use Rattle.std.specs.Prelude.{Option, Some, None}
use Rattle.std.proofs.lemmas.Bool.{eqb-true, and_parts}
use Rattle.units.specs.declared.request.Operation.TheVariants.{Create}
use Rattle.units.specs.declared.request.Request.{Request}
use Rattle.units.specs.declared.reply.Reply.{Reply}
use Rattle.units.specs.declared.reply.Reply.TheVariants.{Created, Updated, Released, Refused}
use Rattle.sessions.specs.Content.{content}
use Rattle.sessions.specs.Trace.{Move, requests, IsTrace}
use Rattle.sessions.specs.Trace.Move.{Closes, Drops, Freezes, Attempts, NotSent, NoReply, GivesUp, Answers}
use Rattle.smf_model.specs.declared.setup.SmfSetup.{SmfSetup}
use Rattle.smf_model.specs.declared.session.Loss.TheVariants.{Unsent, Unanswered}
use Rattle.smf_model.specs.declared.session.Session.{Session}
use Rattle.smf_model.specs.declared.event.SmfEvent.{SmfEvent}
use Rattle.smf_model.specs.declared.event.SmfEvent.TheVariants.{Attach, Start, Count, Change, Tick, Detach, Answered, Attempt, NotSent as CameUnsent, NoReply as CameNoReply, Restart}
use Rattle.smf_model.specs.Freeze.{request_of, with_request}
use Rattle.smf_model.specs.Sending.{unmarked}
use Rattle.smf_model.specs.Replies.{is_final_for, is_answer_to}
use Rattle.smf_model.specs.Machine.{machine_after, session_of, touches, effect, fresh, added_by}
use Rattle.smf_model.specs.Trace.{trace, unanswered, finish_moves, ending_moves, reply_moves, lost_moves, effect_moves, added_moves, moves_of}
use Rattle.smf_model.specs.History.{history}
use Rattle.smf_model.specs.Causes.{AreFinal}
use Rattle.smf_model.proofs.Lifting.{IsNew, With, IsKept, over_all}
use Rattle.smf_model.proofs.Placed.{LeavesRequests, closes_leave}
use Rattle.smf_model.proofs.Effects.{is_final_answer}
use Rattle.smf_model.proofs.Traces.{StandsWhole, kept, trace_is}
use Rattle.smf_model.proofs.Caused.{NoReplies, both_none, closes_none, finish_none, newest_number, loss_none, created_none}

-- moves that are no replies leave it so
before_final : (xs t : List Move) → NoReplies xs → AreFinal t → AreFinal (xs ++ t)
before_final [] t n a = a
before_final (Answers p ∷ xs) t n a = absurd n
before_final (Closes c ∷ xs) t n a = before_final xs t n a
before_final (Drops lsn ∷ xs) t n a = before_final xs t n a
before_final (Freezes q ∷ xs) t n a = before_final xs t n a
before_final (Attempts ∷ xs) t n a = before_final xs t n a
before_final (NotSent ∷ xs) t n a = before_final xs t n a
before_final (NoReply ∷ xs) t n a = before_final xs t n a
before_final (GivesUp ∷ xs) t n a = before_final xs t n a

-- what a reply closes is no reply, and leaves what was asked
ending_none : (now : ℕ) (p : Reply) (s : Session) → NoReplies (ending_moves now p s)
ending_none now (Created reference answer) s = tt
ending_none now (Updated answer) s = tt
ending_none now Released s = closes_none now _ s.holdings
ending_none now (Refused problem) s = closes_none now _ s.holdings

ending_leaves : (now : ℕ) (p : Reply) (t : List Move) (s : Session) → LeavesRequests t (ending_moves now p s ++ t)
ending_leaves now (Created reference answer) t s = record { requests = refl; phase = refl; unanswered = refl; flight = refl; unsent = refl; tried = refl }
ending_leaves now (Updated answer) t s = record { requests = refl; phase = refl; unanswered = refl; flight = refl; unsent = refl; tried = refl }
ending_leaves now Released t s = closes_leave now _ t s.holdings
ending_leaves now (Refused problem) t s = closes_leave now _ t s.holdings

final_for : (place : ℕ) (p : Reply) (q : Request) (t : List Move) → IsTrace t → unanswered t ≡ Some (content q) → ((q.number == place) && is_final_for q.operation p place) ≡ true → is_final_for q.operation p (length (requests t)) ≡ true
final_for place p q t v is final =
    let both = and_parts (q.number == place) (is_final_for q.operation p place) final in
    let here : place ≡ length (requests t) = sym (eqb-true q.number place both.0) ∙ newest_number t (content q) v is in
    subst (λ n. is_final_for q.operation p n ≡ true) here both.1

replied_final : (now place : ℕ) (p : Reply) (o : Option Request) (t : List Move) (s : Session) → IsTrace t → unanswered t ≡ unmarked o → is_answer_to place p o ≡ true → AreFinal t → AreFinal (reply_moves now p o s ++ t)
replied_final now place p None t s v is final a = a
replied_final now place p (Some q) t s v is final a =
    let l : LeavesRequests t (ending_moves now p s ++ t) = ending_leaves now p t s in (
      record {
        request = content q;
        unanswered = l.unanswered ∙ is;
        final = subst (λ rs. is_final_for q.operation p (length rs) ≡ true) (sym l.requests) (final_for place p q t v is final);
      },
      before_final (ending_moves now p s) t (ending_none now p s) a,
    )

effect_final : (event : SmfEvent) (setup : SmfSetup) (now : ℕ) (t : List Move) (s : Session) → touches event s ≡ true → IsNew event s → StandsWhole t s → AreFinal t → AreFinal (effect_moves now event s ++ t)
effect_final (Attach session subscriber groups moment) setup now t s on new w a = a
effect_final (Start session group moment) setup now t s on new w a = a
effect_final (Count session r) setup now t s on new w a = before_final (effect_moves now (Count session r) s) t (closes_none r.moment _ s.holdings) a
effect_final (Change session trigger moment) setup now t s on new w a = before_final (effect_moves now (Change session trigger moment) s) t (closes_none moment _ s.holdings) a
effect_final (Tick moment) setup now t s on new w a = a
effect_final (Detach session abnormal moment) setup now t s on new w a = before_final (effect_moves now (Detach session abnormal moment) s) t (closes_none moment _ s.holdings) a
effect_final (Answered session place reply) setup now t s on new w a = replied_final now place reply s.request t s w.0.valid (sym w.0.unanswered) (is_final_answer place reply s (new on)) a
effect_final (Attempt session peer) setup now t s on new w a = a
effect_final (CameUnsent session) setup now t s on new w a = before_final (lost_moves now Unsent s) t (loss_none setup now Unsent s) a
effect_final (CameNoReply session) setup now t s on new w a = before_final (lost_moves now Unanswered s) t (loss_none setup now Unanswered s) a
effect_final Restart setup now t s on new w a = before_final (lost_moves now Unanswered s) t (loss_none setup now Unanswered s) a

next_final : (b : Bool) (event : SmfEvent) (setup : SmfSetup) (now : ℕ) (t : List Move) (s : Session) → touches event s ≡ b → IsNew event s → StandsWhole t s → AreFinal t
    → AreFinal (cond b (finish_moves setup now (effect setup now event s) ++ effect_moves now event s) [] ++ t)
next_final true event setup now t s on new w a =
    rw append_assoc (before_final (finish_moves setup now (effect setup now event s)) (effect_moves now event s ++ t) (finish_none setup now (effect setup now event s)) (effect_final event setup now t s on new w a))
next_final false event setup now t s on new w a = a

-- a session and its moves
abbrev Both : List Move → Session → Type 0
Both t s = StandsWhole t s × AreFinal t

added_none : (event : SmfEvent) (setup : SmfSetup) (now number : ℕ) → NoReplies (added_moves setup now number event)
added_none (Attach session subscriber groups moment) setup now number =
    let s : Session = with_request setup now Create (fresh setup session subscriber groups moment) in
    let asked : List Move = Freezes (request_of setup now (fresh setup session subscriber groups moment) Create) ∷ [] in
    created_none (session == number) (finish_moves setup now s ++ asked) (both_none (finish_moves setup now s) asked (finish_none setup now s) tt)
added_none (Start session group moment) setup now number = tt
added_none (Count session r) setup now number = tt
added_none (Change session trigger moment) setup now number = tt
added_none (Tick moment) setup now number = tt
added_none (Detach session abnormal moment) setup now number = tt
added_none (Answered session place reply) setup now number = tt
added_none (Attempt session peer) setup now number = tt
added_none (CameUnsent session) setup now number = tt
added_none (CameNoReply session) setup now number = tt
added_none Restart setup now number = tt

both_with : (t : List Move) (o : Option Session) → With StandsWhole t o → AreFinal t → With Both t o
both_with t None h a = h
both_with t (Some s) h a = (h, a)

final_kept : (setup : SmfSetup) → IsKept setup Both moves_of
final_kept setup = record {
  next = λ now number event s t is new h. ((kept setup).next now number event s t is new h.0, next_final (touches event s) event setup now t s refl new h.0 h.1);
  added = λ now number event. both_with (added_moves setup now number event ++ []) (session_of number (added_by setup now event)) ((kept setup).added now number event) (before_final (added_moves setup now number event) [] (added_none event setup now number) tt);
}

final_of : (t : List Move) (o : Option Session) → With Both t o → AreFinal t
final_of t None h = subst AreFinal (sym h) tt
final_of t (Some s) h = h.1

pub final_run : (setup : SmfSetup) (events : List SmfEvent) (number : ℕ) → AreFinal (trace setup events number)
final_run setup events number =
    subst AreFinal (sym (trace_is setup events number))
    (final_of (history moves_of setup events number) (session_of number (machine_after setup events).sessions) (over_all setup Both moves_of (final_kept setup) events number))
