-- What is read of a session that may not be there (this product's own).
use Rattle.std.specs.Prelude.{ℕ, Bool, true, false, Option, Some, None, List, [], map, filter, option_and_then}
use Rattle.units.specs.declared.report.Container.{Container}
use Rattle.units.specs.declared.request.Request.{Request}
use Rattle.quotas.specs.declared.state.Gate.{Gate}
use Rattle.quotas.specs.declared.state.Gate.TheVariants.{Waiting as GateWaiting}
use Rattle.smf_model.specs.declared.session.Place.{Place}
use Rattle.smf_model.specs.declared.session.Place.TheVariants.{Open, Waiting, Frozen}
use Rattle.smf_model.specs.declared.session.Holding.{Holding}
use Rattle.smf_model.specs.declared.session.Session.{Session}
use Rattle.smf_model.specs.declared.session.GivenUp.{GivenUp}
use Rattle.smf_model.specs.declared.session.Peer.{Peer}
use Rattle.smf_model.specs.Sending.{flight_of}
use Rattle.smf_model.specs.GivenUps.{given_up_of}
use Rattle.smf_model.specs.Machine.{gate_for, expected_of}

-- the unanswered request
abbrev pub request_in : Option Session → Option Request
request_in s = option_and_then (λ x. x.request) s

-- the peer of its attempt that has no end
abbrev pub flight_in : Option Session → Option Peer
flight_in s = option_and_then flight_of s

-- what becomes of a rating group's traffic, where there is such a session
abbrev pub gate_at : ℕ → Option Session → Gate
gate_at group None = GateWaiting
gate_at group (Some s) = gate_for group s

-- the number of a rating group's next report, where there is such a session
abbrev pub expected_at : ℕ → Option Session → ℕ
expected_at group None = 1
expected_at group (Some s) = expected_of group s

-- a container is held where it is open, or closed and neither answered by a final success nor given up
abbrev pub is_held_at : Place → Bool
is_held_at Open = true
is_held_at Waiting = true
is_held_at Frozen = true
is_held_at other = false

-- a container is held: it is open, waits or is frozen
abbrev pub is_held : Holding → Bool
is_held h = is_held_at h.place

-- the containers, in order of their numbers
abbrev pub containers_of : List Holding → List Container
containers_of holdings = map (λ h. h.container) holdings

-- all containers of a session, where there is one
abbrev pub holdings_in : Option Session → List Holding
holdings_in None = []
holdings_in (Some s) = s.holdings

-- all of them, and those that are held
abbrev pub containers_in : Option Session → List Container
containers_in s = containers_of (holdings_in s)

-- the containers that are held
abbrev pub held_of : List Holding → List Container
held_of holdings = containers_of (filter is_held holdings)

-- those of a session, where there is one
abbrev pub held_in : Option Session → List Container
held_in s = held_of (holdings_in s)

-- those that are given up, each with the cause
abbrev pub given_up_in : Option Session → List GivenUp
given_up_in s = given_up_of (holdings_in s)
