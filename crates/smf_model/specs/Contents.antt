-- What a request holds: the oldest waiting containers, as they were closed (TS 32.291, 6.1.6.2.1.2 and 6.1.6.2.1.4; the numbers are this product's own).
use Rattle.std.specs.Prelude.{◌≡◌, ℕ, zero, suc, ◌+◌, ◌<◌, ◌≤◌, ◌↔◌, if◌then◌else◌, Some, List, [], ◌∷◌}
use Rattle.std.specs.List.{AllByRecursion}
use Rattle.units.specs.declared.trigger.Closed.{Closed}
use Rattle.units.specs.declared.request.Used.{Used}
use Rattle.units.specs.declared.request.Request.{Request}
use Rattle.sessions.specs.Kept.{occurs_in}
use Rattle.sessions.specs.Trace.{Move, closed_as, IsWaiting}
use Rattle.sessions.specs.Trace.Move.{Freezes}
use Rattle.units.specs.Limits.{most_containers}
use Rattle.units.specs.Words.{name_of_type}
use Rattle.smf_model.specs.Settle.{is_waiting}
use Rattle.smf_model.specs.Places.{place_of}

-- a closed container as a request carries it
abbrev pub used_closed : Closed → Used
used_closed c = record { lsn = c.container.lsn; group = c.container.group; up = c.container.up; down = c.container.down; seconds = c.container.seconds; first = c.container.first; last = c.container.last; triggers = name_of_type c.trigger ∷ []; moment = c.moment }

-- a container in the entry of a rating group is one of that group, as it was closed
pub record IsHeld (trace : List Move) (group : ℕ) (x : Used) : Type 0 where
  pub of_group : x.group ≡ group
  pub closed : Closed
  pub is_closed : closed_as trace x.lsn ≡ Some closed
  pub same : x ≡ used_closed closed

-- a request holds containers as they were closed
abbrev pub HoldsAsClosed : List Move → Request → Type 0
HoldsAsClosed trace q = AllByRecursion (λ u. AllByRecursion (IsHeld trace u.group) u.used) q.usage

-- how many containers wait whose numbers are from 1 to this one
abbrev pub waiting_to : List Move → ℕ → ℕ
waiting_to trace zero = 0
waiting_to trace (suc lsn) = (if is_waiting (place_of trace (suc lsn)) then 1 else 0) + waiting_to trace lsn

-- a request that is frozen after these moves
pub record IsContent (earlier : List Move) (q : Request) : Type 0 where
  pub as_closed : HoldsAsClosed earlier q
  pub oldest : (lsn : ℕ) → 0 < lsn → (0 < occurs_in lsn q.usage) ↔ (IsWaiting earlier lsn × (waiting_to earlier lsn ≤ most_containers))

-- so of each request
abbrev pub AreContents : List Move → Type 0
AreContents [] = Unit {0}
AreContents (Freezes q ∷ earlier) = IsContent earlier q × AreContents earlier
AreContents (move ∷ earlier) = AreContents earlier
