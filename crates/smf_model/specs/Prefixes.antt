-- What more events leave of a session's moves and requests (this product's own).
use Rattle.std.specs.Prelude.{◌≡◌, ℕ, List, ◌++◌}
use Rattle.sessions.specs.Trace.{requests}
use Rattle.smf_model.specs.declared.setup.SmfSetup.{SmfSetup}
use Rattle.smf_model.specs.declared.event.SmfEvent.{SmfEvent}
use Rattle.smf_model.specs.Trace.{trace}

-- a list whose newest entries come first has these before them
abbrev pub EndsWith : {X : Type 0} → List X → List X → Type 0
EndsWith {X} whole earlier = (newer : List X) × (whole ≡ newer ++ earlier)

-- what the events did to a session stands, and each of its requests with its number and its content, whatever events come after them
pub record AreStanding (setup : SmfSetup) (more events : List SmfEvent) (number : ℕ) : Type 0 where
  pub moves : EndsWith (trace setup (more ++ events) number) (trace setup events number)
  pub requests : EndsWith (requests (trace setup (more ++ events) number)) (requests (trace setup events number))
