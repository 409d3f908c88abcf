-- What an attempt, the end of one and a restart do to the moves of a session (TS 32.290, failure handling).
use Rattle.std.specs.Prelude.{◌≡◌, ◌⊎◌, ◌↔◌, ℕ, ◌+◌, ◌&&◌, not, Bool, true, false, Option, Some, None, List, ◌∷◌, Ok}
use Rattle.sessions.specs.Trace.{Move, phase, flight, attempts, is_unsent}
use Rattle.sessions.specs.Trace.Phase.{Unsent}
use Rattle.smf_model.specs.declared.setup.SmfSetup.{SmfSetup}
use Rattle.smf_model.specs.declared.session.Session.{Session}
use Rattle.smf_model.specs.declared.event.SmfEvent.{SmfEvent}
use Rattle.smf_model.specs.declared.event.SmfEvent.TheVariants.{NotSent}
use Rattle.smf_model.specs.declared.refusal.Seen.TheVariants.{New}
use Rattle.smf_model.specs.Rounds.{is_continue, is_last}
use Rattle.smf_model.specs.Machine.{machine_after, answer_of, session_of}
use Rattle.smf_model.specs.Trace.{trace, unanswered}

-- the event is a step after these
abbrev pub IsStep : SmfSetup → List SmfEvent → SmfEvent → Type 0
IsStep setup events event = answer_of (machine_after setup events) event ≡ Ok New

-- an attempt begins: it is the next one and has no end, and the unanswered request is as before
pub record Begins (before after : List Move) : Type 0 where
  pub flight : flight after ≡ Some (attempts before + 1)
  pub unanswered : unanswered after ≡ unanswered before

-- an attempt of the session has no end
abbrev pub Flies : List Move → Type 0
Flies trace = (attempt : ℕ) × (flight trace ≡ Some attempt)

-- a round whose end does not leave the session as it is is over with the attempt in flight
abbrev pub breaks_off : Option Session → Bool
breaks_off None = false
breaks_off (Some s) = is_last s && not (is_continue s.handling)

-- the session is given up unsent after an event exactly where it was before, or where the event says that the attempt in flight did not leave,
-- which was the last of its round, the session does not go on without an answer, and no attempt of the request before it left
abbrev pub IsGivenUp : SmfSetup → SmfEvent → List SmfEvent → ℕ → Type 0
IsGivenUp setup event events number =
    (phase (trace setup (event ∷ events) number) ≡ Unsent)
    ↔ ((phase (trace setup events number) ≡ Unsent)
    ⊎ ((event ≡ NotSent number) × IsStep setup events event × (breaks_off (session_of number (machine_after setup events).sessions) ≡ true) × (is_unsent (trace setup events number) ≡ true)))
