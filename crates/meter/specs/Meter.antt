-- What callers of a meter cite: what came of the session, the answer to a report, and what comes of a report, a close and a horizon.
use Rattle.std.specs.Prelude.{◌≡◌, ℕ, ◌==◌, if◌then◌else◌, List, [], ◌∷◌, Option, Some, None}
use Rattle.std.specs.List.{find}
use Rattle.units.specs.Limits.{greatest_moment}
use Rattle.units.specs.Cut.{NoSwitchWithin}
use Rattle.units.specs.declared.report.Container.{Container}
use Rattle.units.specs.declared.trigger.TriggerType.{TriggerType}
use Rattle.units.specs.declared.trigger.Closed.{Closed}
use Rattle.meter.specs.declared.close.Close.{Close}
use Rattle.meter.specs.declared.horizon.Horizon.{Horizon}
use Rattle.meter.specs.Horizons.{is_unsafe, IsNextSwitch}
pub use Rattle.meter.specs.Contents.{Contents, Metered, nothing_yet, horizon_of, close_of, last_in, last_of, unless_closed, close_of_last, open_of, IsOpenUntil, AreClosedButOpen, AreNumbered, IsSmall, report_total, IsUndisturbed}
pub use Rattle.meter.specs.Admission.{group_total, expected_of, latest, is_in, with_group, groups_of, HasPlaceFor, is_too_large, answer_of}
pub use Rattle.meter.specs.Joining.{may_join, trigger_of, extended, opened, with_joined, with_closed, with_opened, report_taken, after_report, IsTaken}

-- the container closed, if there is one
abbrev pub close_taken : Contents → Option Container → TriggerType → ℕ → Contents
close_taken s None trigger moment = s
close_taken s (Some c) trigger moment = with_closed s c trigger moment

-- after a close: the group's open container, if there is one, is closed
abbrev pub after_close : Contents → ℕ → TriggerType → ℕ → Contents
after_close s group trigger moment = close_taken s (open_of s group) trigger moment

-- with the horizon in the place of its group's, or at the end
abbrev pub with_horizon : List Horizon → Horizon → List Horizon
with_horizon [] h = h ∷ []
with_horizon (k ∷ ks) h = if k.group == h.group then h ∷ ks else k ∷ with_horizon ks h

-- after a horizon was set
abbrev pub after_horizon : Contents → Horizon → Contents
after_horizon s h = record s { horizons = with_horizon s.horizons h }

-- the container and its close, if there are both
abbrev pub closed_as : Option Container → Option Close → Option Closed
closed_as None close = None
closed_as (Some c) None = None
closed_as (Some c) (Some k) = Some (record { container = c; trigger = k.trigger; moment = k.moment })

-- the container with this number as it was closed, if it was
abbrev pub closed_of : Contents → ℕ → Option Closed
closed_of s lsn = closed_as (find (λ c. c.lsn == lsn) s.containers) (close_of s lsn)

-- the least unsafe hour after the container's last moment, None exactly where there is no container or no such hour is a moment
abbrev pub IsFirstUnsafeAfter : Option Horizon → Option Container → Option ℕ → Type 0
IsFirstUnsafeAfter horizon None hour = hour ≡ None
IsFirstUnsafeAfter horizon (Some c) None = NoSwitchWithin (is_unsafe horizon) c.last greatest_moment
IsFirstUnsafeAfter horizon (Some c) (Some hour) = IsNextSwitch (is_unsafe horizon) c.last hour

-- so of the group's open container
abbrev pub IsFirstUnsafe : Contents → ℕ → Option ℕ → Type 0
IsFirstUnsafe s group hour = IsFirstUnsafeAfter (horizon_of s group) (open_of s group) hour
