-- Where each container of a session is, read off the session's moves alone (TS 32.255, 5.2.1; TS 32.290, 5.3.2; what is given up is this product's own).
use Rattle.std.specs.Prelude.{◌≡◌, ℕ, ◌+◌, ◌==◌, Bool, true, false, Option, Some, None, option_map, List, [], ◌∷◌}
use Rattle.std.specs.List.{AllByRecursion}
use Rattle.units.specs.declared.trigger.Closed.{Closed}
use Rattle.sessions.specs.Kept.{uses}
use Rattle.sessions.specs.Trace.{Move, Cause, requests, settled, closed_as, given_up}
use Rattle.sessions.specs.Trace.Cause.{WasNotSent, HeldFull as HeldFullCause, WasRefused}
use Rattle.smf_model.specs.declared.session.Why.{Why}
use Rattle.smf_model.specs.declared.session.Why.TheVariants.{NotSent, HeldFull, Refused}
use Rattle.smf_model.specs.declared.session.Place.{Place}
use Rattle.smf_model.specs.declared.session.Place.TheVariants.{Open, Waiting, Frozen, Answered, GivenUp}
use Rattle.smf_model.specs.declared.session.Holding.{Holding}
use Rattle.smf_model.specs.declared.session.Session.{Session}

-- the cause, as the machine tells it
abbrev pub why_of : Cause → Why
why_of WasNotSent = NotSent
why_of HeldFullCause = HeldFull
why_of WasRefused = Refused

-- a closed container is given up, with the cause; else it waits where it is in no request, is frozen where it is in no answered one, and else is answered
abbrev pub place_closed : Option Cause → Bool → Bool → Place
place_closed (Some cause) in_none unanswered = GivenUp (why_of cause)
place_closed None true unanswered = Waiting
place_closed None false true = Frozen
place_closed None false false = Answered

-- a container is open until it is closed
abbrev pub place_by : Option Closed → Option Cause → Bool → Bool → Place
place_by None cause in_none unanswered = Open
place_by (Some closed) cause in_none unanswered = place_closed cause in_none unanswered

-- where the container of this number is, by the moves
abbrev pub place_of : List Move → ℕ → Place
place_of trace lsn = place_by (closed_as trace lsn) (given_up trace lsn) (uses lsn (requests trace) == 0) (uses lsn (settled trace) == 0)

-- a container of a session with what closed it and when, if it is closed
abbrev pub closed_holding : Holding → Option Closed
closed_holding h = option_map (λ trigger. record { container = h.container; trigger = trigger; moment = h.moment }) h.trigger

-- a container is where the moves say, and was closed as they say
pub record IsAsMoved (trace : List Move) (h : Holding) : Type 0 where
  pub place : h.place ≡ place_of trace h.container.lsn
  pub closed : closed_holding h ≡ closed_as trace h.container.lsn

-- containers are numbered from this number on
abbrev pub AreInOrder : ℕ → List Holding → Type 0
AreInOrder next [] = Unit {0}
AreInOrder next (h ∷ holdings) = (h.container.lsn ≡ next) × AreInOrder (next + 1) holdings

-- the containers of a session are numbered 1, 2, 3, and each is as the moves leave it
pub record AreAsMoved (trace : List Move) (holdings : List Holding) : Type 0 where
  pub numbered : AreInOrder 1 holdings
  pub each : AllByRecursion (IsAsMoved trace) holdings

-- so of a session that is there; one that is not has no moves
abbrev pub StandsAsMoved : List Move → Option Session → Type 0
StandsAsMoved trace None = trace ≡ []
StandsAsMoved trace (Some s) = AreAsMoved trace s.holdings
