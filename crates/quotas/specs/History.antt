-- What is read off the whole list of what came to a group, whose newest entry comes first (TS 32.290, quota management).
use Rattle.std.specs.Prelude.{ℕ, Bool, true, false, if◌then◌else◌, Option, Some, None, List, [], ◌∷◌, sum_by}
use Rattle.quotas.specs.declared.standing.Standing.{Standing}
use Rattle.quotas.specs.declared.step.Step.{Step}
use Rattle.quotas.specs.declared.step.Step.TheVariants.{Asked, Answered, Continued, Used, Fired, Shut}
use Rattle.quotas.specs.Standing.{set_by}
use Rattle.quotas.specs.Effect.{wants_quota, returns_quota}
use Rattle.quotas.specs.Steps.{since_set}

-- the octets of a report
abbrev pub octets_in : Step → ℕ
octets_in (Used octets seconds moment) = octets
octets_in other = 0

-- the seconds of a report
abbrev pub seconds_in : Step → ℕ
seconds_in (Used octets seconds moment) = seconds
seconds_in other = 0

-- the octets used since the freezing of the request whose answer set the group
abbrev pub octets_used : List Step → ℕ
octets_used steps = sum_by octets_in (since_set steps)

-- the seconds used since then
abbrev pub seconds_used : List Step → ℕ
seconds_used steps = sum_by seconds_in (since_set steps)

-- the moment of the latest report, 0 before the first
abbrev pub latest_use : List Step → ℕ
latest_use [] = 0
latest_use (Used octets seconds moment ∷ earlier) = moment
latest_use (step ∷ earlier) = latest_use earlier

-- what the latest answer with an entry of the group set
abbrev pub latest_set : List Step → Option Standing
latest_set [] = None
latest_set (Answered stamp (Some info) ∷ earlier) = Some (set_by info.code stamp info)
latest_set (step ∷ earlier) = latest_set earlier

-- what the latest entry of the group set, where neither a trigger nor the want of a CHF has changed it since
abbrev pub unchanged_set : List Step → Option Standing
unchanged_set [] = None
unchanged_set (Answered stamp (Some info) ∷ earlier) = Some (set_by info.code stamp info)
unchanged_set (Continued ∷ earlier) = None
unchanged_set (Fired trigger ∷ earlier) = if returns_quota trigger then None else unchanged_set earlier
unchanged_set (step ∷ earlier) = unchanged_set earlier

-- what may set a wish: asking, a trigger that wants quota, and an answer without an entry, where the group went on free
abbrev pub may_wish : Step → Bool
may_wish Asked = true
may_wish (Fired trigger) = wants_quota trigger
may_wish (Answered stamp None) = true
may_wish other = false

-- an answer with success
abbrev pub is_answer : Step → Bool
is_answer (Answered stamp info) = true
is_answer other = false

-- a trigger that gives quota back
abbrev pub is_return : Step → Bool
is_return (Fired trigger) = returns_quota trigger
is_return other = false

-- the session's end
abbrev pub is_shut : Step → Bool
is_shut Shut = true
is_shut other = false
