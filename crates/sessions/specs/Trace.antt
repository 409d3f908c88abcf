-- What events do to one charging session, as a list of moves whose newest comes first, and what is read off it (TS 32.290, 5.3.2; the moves are this product's own).
use Rattle.std.specs.Prelude.{◌≡◌, ℕ, ◌+◌, ◌<◌, ◌≤◌, ◌==◌, Bool, true, false, cond, List, [], ◌∷◌, length, Option, Some, None}
use Rattle.units.specs.declared.trigger.Closed.{Closed}
use Rattle.units.specs.declared.request.Request.{Request}
use Rattle.units.specs.declared.reply.Reply.{Reply}
use Rattle.sessions.specs.Kept.{is_success, is_release, occurs_in, uses}

-- a container is closed; a closed container is given up as too many wait; a request is frozen; it is sent; the attempt ends unsent, or without
-- a reply; the request is given up unsent, and the session ends; a final reply comes
pub data Move : Type 0 where
  Closes : Closed → Move
  Drops : ℕ → Move
  Freezes : Request → Move
  Attempts NotSent NoReply GivesUp : Move
  Answers : Reply → Move

-- what a session waits for: nothing, a reply, or nothing ever again: released, given up unsent, refused
pub data Phase : Type 0 where
  Idle Asked Released Unsent Refused : Phase

-- why a container is given up
pub data Cause : Type 0 where
  WasNotSent HeldFull WasRefused : Cause

-- the requests, the newest first
abbrev pub requests : List Move → List Request
requests [] = []
requests (Freezes q ∷ earlier) = q ∷ requests earlier
requests (move ∷ earlier) = requests earlier

-- those before the newest final success, and that success's own
abbrev pub settled : List Move → List Request
settled [] = []
settled (Answers p ∷ earlier) = cond (is_success p) (requests earlier) (settled earlier)
settled (move ∷ earlier) = settled earlier

-- whether the newest request is a Release
abbrev pub is_released : List Request → Bool
is_released [] = false
is_released (q ∷ earlier) = is_release q.operation

-- what the session waits for
abbrev pub phase : List Move → Phase
phase [] = Idle
phase (Freezes q ∷ earlier) = Asked
phase (Answers p ∷ earlier) = cond (is_success p) (cond (is_released (requests earlier)) Released Idle) Refused
phase (GivesUp ∷ earlier) = Unsent
phase (move ∷ earlier) = phase earlier

-- how many attempts there were
abbrev pub attempts : List Move → ℕ
attempts [] = 0
attempts (Attempts ∷ earlier) = attempts earlier + 1
attempts (move ∷ earlier) = attempts earlier

-- the number of the attempt that has no end
abbrev pub flight : List Move → Option ℕ
flight [] = None
flight (Attempts ∷ earlier) = Some (attempts earlier + 1)
flight (NotSent ∷ earlier) = None
flight (NoReply ∷ earlier) = None
flight (Answers p ∷ earlier) = None
flight (Freezes q ∷ earlier) = None
flight (move ∷ earlier) = flight earlier

-- each attempt of the newest request that ended, ended unsent
abbrev pub is_unsent : List Move → Bool
is_unsent [] = false
is_unsent (Freezes q ∷ earlier) = true
is_unsent (NoReply ∷ earlier) = false
is_unsent (Answers p ∷ earlier) = false
is_unsent (move ∷ earlier) = is_unsent earlier

-- the final reply to the request of this number
abbrev pub outcome : List Move → ℕ → Option Reply
outcome [] number = None
outcome (Answers p ∷ earlier) number = cond (length (requests earlier) == number) (Some p) (outcome earlier number)
outcome (move ∷ earlier) number = outcome earlier number

-- the container of this number as it was closed
abbrev pub closed_as : List Move → ℕ → Option Closed
closed_as [] lsn = None
closed_as (Closes c ∷ earlier) lsn = cond (c.container.lsn == lsn) (Some c) (closed_as earlier lsn)
closed_as (move ∷ earlier) lsn = closed_as earlier lsn

-- the earlier cause, where there is one
abbrev pub or_cause : Option Cause → Bool → Cause → Option Cause
or_cause (Some cause) holds later = Some cause
or_cause None holds later = cond holds (Some later) None

-- why the container of this number was given up, if it was: the first cause stands, and what a final success took is never given up
abbrev pub given_up : List Move → ℕ → Option Cause
given_up [] lsn = None
given_up (Drops dropped ∷ earlier) lsn = or_cause (given_up earlier lsn) (dropped == lsn) HeldFull
given_up (GivesUp ∷ earlier) lsn = or_cause (given_up earlier lsn) (uses lsn (settled earlier) == 0) WasNotSent
given_up (Answers p ∷ earlier) lsn = cond (is_success p) (given_up earlier lsn) (or_cause (given_up earlier lsn) (uses lsn (settled earlier) == 0) WasRefused)
given_up (move ∷ earlier) lsn = given_up earlier lsn

-- a container waits: it is closed, in no request, and not given up
pub record IsWaiting (trace : List Move) (lsn : ℕ) : Type 0 where
  pub closed : Closed
  pub is_closed : closed_as trace lsn ≡ Some closed
  pub in_none : uses lsn (requests trace) ≡ 0
  pub not_given_up : given_up trace lsn ≡ None

-- a request may be frozen: nothing is unanswered, its number is the next, and its containers wait and stand in it once
pub record MayFreeze (trace : List Move) (q : Request) : Type 0 where
  pub idle : phase trace ≡ Idle
  pub next : q.number ≡ length (requests trace) + 1
  pub once : (lsn : ℕ) → occurs_in lsn q.usage ≤ 1
  pub waiting : (lsn : ℕ) → 0 < occurs_in lsn q.usage → IsWaiting trace lsn

-- a move that may come after these
abbrev pub Admits : List Move → Move → Type 0
Admits earlier (Closes c) = closed_as earlier c.container.lsn ≡ None
Admits earlier (Drops lsn) = IsWaiting earlier lsn
Admits earlier (Freezes q) = MayFreeze earlier q
Admits earlier Attempts = (phase earlier ≡ Asked) × (flight earlier ≡ None)
Admits earlier NotSent = (phase earlier ≡ Asked) × ((attempt : ℕ) × (flight earlier ≡ Some attempt))
Admits earlier NoReply = (phase earlier ≡ Asked) × ((attempt : ℕ) × (flight earlier ≡ Some attempt))
Admits earlier GivesUp = (phase earlier ≡ Asked) × (flight earlier ≡ None) × (is_unsent earlier ≡ true)
Admits earlier (Answers p) = phase earlier ≡ Asked

-- each move may come after those before it
abbrev pub IsTrace : List Move → Type 0
IsTrace [] = Unit {0}
IsTrace (move ∷ earlier) = Admits earlier move × IsTrace earlier
