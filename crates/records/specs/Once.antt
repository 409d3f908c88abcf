-- Over every list of calls, each container that came stands in one record, closed or not (TS 32.255, 5.2.3; this product's own statement).
use Rattle.std.specs.Prelude.{◌≡◌, ℕ, ◌+◌, ◌==◌, ⊤, List, [], ◌∷◌, Option, Some, None, IsSome, sum_by, if◌then◌else◌}
use Rattle.units.specs.declared.request.Used.{Used}
use Rattle.records.specs.declared.limits.RecordLimits.{RecordLimits}
use Rattle.records.specs.declared.record.Kept.{Kept}
use Rattle.records.specs.declared.filing.Filing.{Filing}
use Rattle.records.specs.declared.filing.Filing.TheVariants.{Begun, Added}
use Rattle.records.specs.Sums.{total}
use Rattle.records.specs.Book.{Records, session_of, open_of, records_after}

-- The sum of a number over the containers of a record, 0 where it is of another session; so many containers, where the number is 1 for some and 0 for others (this product's own).
abbrev pub stands_in : (Used → ℕ) → ℕ → Kept → ℕ
stands_in f session k = if k.session == session then total f k.usage else 0

-- The same of a record that is not closed, if there is one (this product's own).
abbrev pub stands_open : (Used → ℕ) → ℕ → Option Kept → ℕ
stands_open f session None = 0
stands_open f session (Some k) = stands_in f session k

-- The sum over the containers of all records of a session, closed or not (this product's own).
abbrev pub stand : (Used → ℕ) → ℕ → Records → ℕ
stand f session b = sum_by (stands_in f session) b.closed + sum_by (λ z. stands_open f session z.unclosed) b.sessions

-- The sum over the containers that a call brings to a session (this product's own).
abbrev pub came_by : (Used → ℕ) → ℕ → Filing → ℕ
came_by f session (Added number used stamp last) = if number == session then total f used else 0
came_by f session other = 0

-- The sum over the containers that came to a session (this product's own).
abbrev pub came : (Used → ℕ) → ℕ → List Filing → ℕ
came f session filings = sum_by (came_by f session) filings

-- A call is made as it may be: a session begins once, and containers come to one that has begun and not ended (this product's own).
abbrev pub MayCome : Records → Filing → Type 0
MayCome b (Begun number subscriber consumer charging_id stamp) = session_of b.sessions number ≡ None
MayCome b (Added number used stamp last) = IsSome (open_of b.sessions number)
MayCome b other = ⊤

-- So is each call of a list, the newest first (this product's own).
abbrev pub MayAllCome : RecordLimits → List Filing → Type 0
MayAllCome l [] = ⊤
MayAllCome l (f ∷ fs) = MayCome (records_after l fs) f × MayAllCome l fs

-- Whatever number is summed over containers: over the records of a session, closed or not, it is what it is over the containers that came to the session. So each
-- container stands in exactly one record as often as it came (TS 32.255, 5.2.3).
abbrev pub ContainersStandOnce : Type 0
ContainersStandOnce = (l : RecordLimits) (filings : List Filing) (f : Used → ℕ) (session : ℕ) → MayAllCome l filings → stand f session (records_after l filings) ≡ came f session filings
