-- The deadline of a rating group: from which moment on its validity or its holding time is over, where nothing comes to it before (TS 32.290, quota management; the word is this product's own).
use Rattle.std.specs.Prelude.{◌≡◌, ℕ, ◌+◌, ◌≤◌, ◌&&◌, nat_lt, nat_le, Bool, true, false, if◌then◌else◌, min, max, Option, Some, None, is_some}
use Rattle.units.specs.declared.report.Container.{Container}
use Rattle.units.specs.declared.trigger.TriggerType.{TriggerType}
use Rattle.units.specs.declared.trigger.TriggerType.TheVariants.{ValidityTime, QuotaHoldingTime}
use Rattle.units.specs.Limits.{greatest_moment}
use Rattle.quotas.specs.declared.state.Limits.{Limits}
use Rattle.quotas.specs.declared.standing.Terms.{Terms}
use Rattle.quotas.specs.declared.standing.Standing.{Standing}
use Rattle.quotas.specs.declared.standing.Standing.TheVariants.{Granted}
use Rattle.quotas.specs.Quota.{Quota, is_asked, left}
use Rattle.quotas.specs.Due.{in_open, due_of, first_by_terms}

-- the earlier of two moments, where each may be none
abbrev pub earlier : Option ℕ → Option ℕ → Option ℕ
earlier None b = b
earlier (Some a) None = Some a
earlier (Some a) (Some b) = Some (min a b)

-- there is a moment, and it has come
abbrev pub has_come : ℕ → Option ℕ → Bool
has_come now None = false
has_come now (Some moment) = nat_le moment now

-- the end of a time that begins at a moment, within the range of moments; a time of 0 is none
abbrev pub end_of : ℕ → ℕ → Option ℕ
end_of from time = if nat_lt 0 time && nat_le (from + time) greatest_moment then Some (from + time) else None

-- the end of the validity or of the holding time, whichever is earlier; none where the amount alone makes a trigger due, which comes first in the table
abbrev pub terms_deadline : Terms → ℕ → ℕ → Option ℕ
terms_deadline t rest last_use = if is_some (first_by_terms t rest last_use 0) then None else earlier (end_of t.stamp t.validity) (end_of (max t.stamp last_use) t.holding)

-- so of granted units
abbrev pub granted_deadline : Quota → Standing → Option ℕ
granted_deadline q (Granted t) = terms_deadline t (left t q) q.last_use
granted_deadline q other = None

-- and only where no quota is asked for
abbrev pub deadline : Quota → Option ℕ
deadline q = if is_asked q then None else granted_deadline q q.standing

-- a trigger of the validity or the holding time
abbrev pub is_timed : Option TriggerType → Bool
is_timed None = false
is_timed (Some ValidityTime) = true
is_timed (Some QuotaHoldingTime) = true
is_timed (Some other) = false

-- without an open container, such a trigger is due at this moment and at each later one, and at none before
abbrev pub IsDeadline : Quota → Option ℕ → Type 0
IsDeadline q moment = (now : ℕ) (limits : Limits) → now ≤ greatest_moment → is_timed (due_of q None false now limits) ≡ has_come now moment

-- where no trigger is due at the first moment, so that none is at every one, no trigger is due before the deadline while the hour is not unsafe
abbrev pub RestsUntilDeadline : Quota → Type 0
RestsUntilDeadline q = (open_container : Option Container) (unsafe_hour : Bool) (now : ℕ) (limits : Limits) → now ≤ greatest_moment
    → due_of q open_container false 0 limits ≡ None → has_come now (deadline q) ≡ false → in_open open_container (λ c. unsafe_hour) ≡ false
    → due_of q open_container unsafe_hour now limits ≡ None
