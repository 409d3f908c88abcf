-- What events bring to one session, the newest first: of each new event, what it brings to the session as the events before it left it (this product's own).
use Rattle.std.specs.Prelude.{ℕ, Option, List, [], ◌∷◌, ◌++◌, Result, Ok, Err}
use Rattle.smf_model.specs.declared.setup.SmfSetup.{SmfSetup}
use Rattle.smf_model.specs.declared.session.Session.{Session}
use Rattle.smf_model.specs.declared.session.Machine.{Machine}
use Rattle.smf_model.specs.declared.event.SmfEvent.{SmfEvent}
use Rattle.smf_model.specs.declared.refusal.Seen.{Seen}
use Rattle.smf_model.specs.declared.refusal.Seen.TheVariants.{New, Known}
use Rattle.smf_model.specs.declared.refusal.SmfRefusal.{SmfRefusal}
use Rattle.smf_model.specs.Machine.{session_of, answer_of, now_after, machine_after}

-- what an event brings to the session of a number: by the setup, the moment after the event, and the session before it
abbrev pub Brings : Type 0 → Type 0
Brings X = SmfSetup → ℕ → ℕ → SmfEvent → Option Session → List X

-- what an event brings to a session, where it is a step
abbrev pub brought : {X : Type 0} → Brings X → Machine → ℕ → SmfEvent → Result Seen SmfRefusal → List X
brought brings m number event (Ok New) = brings m.setup (now_after m.moment event) number event (session_of number m.sessions)
brought brings m number event (Ok Known) = []
brought brings m number event (Err e) = []

-- all that events brought to a session, the newest first
abbrev pub history : {X : Type 0} → Brings X → SmfSetup → List SmfEvent → ℕ → List X
history brings setup [] number = []
history brings setup (event ∷ earlier) number =
    brought brings (machine_after setup earlier) number event (answer_of (machine_after setup earlier) event) ++ history brings setup earlier number
