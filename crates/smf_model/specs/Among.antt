-- What the moves close is among the containers of the session, and what is outside of their numbers is no container (TS 32.255, 5.2.1).
use Rattle.std.specs.Prelude.{◌≡◌, ◌⊎◌, ℕ, ◌<◌, Option, Some, None, List, [], length}
use Rattle.std.specs.List.{Contains}
use Rattle.units.specs.declared.trigger.Closed.{Closed}
use Rattle.sessions.specs.Kept.{uses}
use Rattle.sessions.specs.Trace.{Move, requests, closed_as}
use Rattle.smf_model.specs.declared.session.Holding.{Holding}
use Rattle.smf_model.specs.declared.session.Session.{Session}
use Rattle.smf_model.specs.Places.{closed_holding}

-- a container of the session that was closed so
pub record IsAmong (closed : Closed) (s : Session) : Type 0 where
  pub holding : Holding
  pub held : Contains s.holdings holding
  pub same : closed_holding holding ≡ Some closed
  pub number : holding.container.lsn ≡ closed.container.lsn

-- no container has the number 0 or one beyond the number of containers: none is closed, and no request has one
pub record AreOutside (trace : List Move) (s : Session) (lsn : ℕ) : Type 0 where
  pub closed : closed_as trace lsn ≡ None
  pub unused : uses lsn (requests trace) ≡ 0

-- each that the moves close is a container of the session, and none is outside of their numbers
pub record AreItsOwn (trace : List Move) (s : Session) : Type 0 where
  pub among : (lsn : ℕ) (closed : Closed) → closed_as trace lsn ≡ Some closed → IsAmong closed s
  pub outside : (lsn : ℕ) → (lsn ≡ 0) ⊎ (length s.holdings < lsn) → AreOutside trace s lsn

-- so of a session that is there; one that is not has no moves
abbrev pub StandAmong : List Move → Option Session → Type 0
StandAmong trace None = trace ≡ []
StandAmong trace (Some s) = AreItsOwn trace s
