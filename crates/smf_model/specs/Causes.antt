-- Which event makes a move: a reply is an answer of its session by that event alone, and only to the unanswered request, for which it is final (TS 32.290, 5.3.2).
use Rattle.std.specs.Prelude.{◌≡◌, ℕ, true, Some, List, [], ◌∷◌, ◌++◌, length}
use Rattle.units.specs.declared.request.Request.{Request}
use Rattle.units.specs.declared.reply.Reply.{Reply}
use Rattle.sessions.specs.Trace.{Move, requests}
use Rattle.sessions.specs.Trace.Move.{Answers}
use Rattle.smf_model.specs.declared.event.SmfEvent.{SmfEvent}
use Rattle.smf_model.specs.declared.event.SmfEvent.TheVariants.{Answered}
use Rattle.smf_model.specs.Replies.{is_final_for}
use Rattle.smf_model.specs.Trace.{unanswered}

-- a reply that the event brought, to the newest request of the session
abbrev pub IsCaused : SmfEvent → ℕ → List Move → Move → Type 0
IsCaused event number earlier (Answers reply) = event ≡ Answered number (length (requests earlier)) reply
IsCaused event number earlier move = Unit {0}

-- so each move of the event, each after those before it
abbrev pub AreCaused : SmfEvent → ℕ → List Move → List Move → Type 0
AreCaused event number before [] = Unit {0}
AreCaused event number before (move ∷ moves) = IsCaused event number (moves ++ before) move × AreCaused event number before moves

-- the reply is final for the unanswered request, which is the newest
pub record IsFinal (earlier : List Move) (reply : Reply) : Type 0 where
  pub request : Request
  pub unanswered : unanswered earlier ≡ Some request
  pub final : is_final_for request.operation reply (length (requests earlier)) ≡ true

-- so each reply that is an answer
abbrev pub AreFinal : List Move → Type 0
AreFinal [] = Unit {0}
AreFinal (Answers reply ∷ earlier) = IsFinal earlier reply × AreFinal earlier
AreFinal (move ∷ earlier) = AreFinal earlier
