-- A session that is over holds nothing (this product's own).
use Rattle.std.specs.Prelude.{◌≡◌, ◌⊎◌, ◌||◌, Bool, true, false, Option, Some, None, List, []}
use Rattle.std.specs.List.{AllByRecursion}
use Rattle.sessions.specs.Trace.{Move, phase}
use Rattle.sessions.specs.Trace.Phase.{Released}
use Rattle.smf_model.specs.declared.session.Place.{Place}
use Rattle.smf_model.specs.declared.session.Session.{Session}
use Rattle.smf_model.specs.Settle.{is_open, is_waiting, is_frozen}
use Rattle.smf_model.specs.Apart.{is_lost}

-- a container is held until it is answered or given up
abbrev pub is_held : Place → Bool
is_held place = is_open place || (is_waiting place || is_frozen place)

-- where a Release was answered, or the session was refused or given up unsent, no container is held
abbrev pub HoldsNothing : List Move → Option Session → Type 0
HoldsNothing trace None = trace ≡ []
HoldsNothing trace (Some s) = (phase trace ≡ Released) ⊎ (is_lost (phase trace) ≡ true) → AllByRecursion (λ h. is_held h.place ≡ false) s.holdings
