-- Each container of a session stands in one place, and is given up once and for one cause, by the moves of its session alone (TS 32.290, 5.3.2; what is given up is this product's own).
use Rattle.std.specs.Prelude.{◌≡◌, ◌↔◌, ℕ, ◌<◌, ◌≤◌, ◌==◌, ◌||◌, not, Bool, true, false, Option, Some, None, List, [], ◌∷◌, ◌++◌, length}
use Rattle.sessions.specs.Kept.{is_success, uses}
use Rattle.sessions.specs.Trace.{Move, Cause, settled, phase, closed_as, given_up, IsWaiting}
use Rattle.sessions.specs.Trace.Move.{Drops, Answers}
use Rattle.sessions.specs.Trace.Phase.{Unsent, Refused}
use Rattle.sessions.specs.Trace.Cause.{WasNotSent, HeldFull as HeldFullCause, WasRefused}
use Rattle.smf_model.specs.declared.session.Place.{Place}
use Rattle.smf_model.specs.declared.session.Place.TheVariants.{Open, Waiting, Frozen, Answered, GivenUp}
use Rattle.smf_model.specs.declared.session.Session.{Session}
use Rattle.smf_model.specs.Places.{why_of}
use Rattle.smf_model.specs.Exact.{IsAsked}

-- what the moves say of a container in a place
abbrev pub Stands : List Move → ℕ → Place → Type 0
Stands trace lsn Open = closed_as trace lsn ≡ None
Stands trace lsn Waiting = IsWaiting trace lsn
Stands trace lsn Frozen = IsAsked trace lsn
Stands trace lsn Answered = 0 < uses lsn (settled trace)
Stands trace lsn (GivenUp why) = (cause : Cause) × (why_of cause ≡ why) × (given_up trace lsn ≡ Some cause)

-- they say so of one place, and of no other
pub record StandsOnce (trace : List Move) (lsn : ℕ) : Type 0 where
  pub place : Place
  pub stands : Stands trace lsn place
  pub only : (other : Place) → Stands trace lsn other → place ≡ other

-- each container of a session, which are numbered from 1 to their count
abbrev pub EachStandsOnce : List Move → Option Session → Type 0
EachStandsOnce trace None = trace ≡ []
EachStandsOnce trace (Some s) = (lsn : ℕ) → 0 < lsn → lsn ≤ length s.holdings → StandsOnce trace lsn

-- the moves give a container up as too much
abbrev pub is_dropped : ℕ → List Move → Bool
is_dropped lsn [] = false
is_dropped lsn (Drops dropped ∷ earlier) = (dropped == lsn) || is_dropped lsn earlier
is_dropped lsn (move ∷ earlier) = is_dropped lsn earlier

-- a request of the session was refused
abbrev pub is_refused : List Move → Bool
is_refused [] = false
is_refused (Answers reply ∷ earlier) = not (is_success reply) || is_refused earlier
is_refused (move ∷ earlier) = is_refused earlier

-- a container was not given up as too much, and is in no request with a final success
pub record IsLeft (trace : List Move) (lsn : ℕ) : Type 0 where
  pub kept : is_dropped lsn trace ≡ false
  pub unanswered : uses lsn (settled trace) ≡ 0

-- a container is given up in exactly these cases: as too much where a move says so; and where the session was given up unsent or a request of
-- it was refused, with that cause, if it was left; and whatever moves come later, the cause stands
pub record IsGivenUpFor (trace : List Move) (lsn : ℕ) : Type 0 where
  pub held_full : (given_up trace lsn ≡ Some HeldFullCause) ↔ (is_dropped lsn trace ≡ true)
  pub not_sent : (given_up trace lsn ≡ Some WasNotSent) ↔ ((phase trace ≡ Unsent) × IsLeft trace lsn)
  pub refused : (given_up trace lsn ≡ Some WasRefused) ↔ ((phase trace ≡ Refused) × IsLeft trace lsn)
  pub refusal : (phase trace ≡ Refused) ↔ (is_refused trace ≡ true)
  pub once : (newer : List Move) (cause : Cause) → given_up trace lsn ≡ Some cause → given_up (newer ++ trace) lsn ≡ Some cause
