-- Which container a report comes into: the rule for joining (TS 32.255, 5.2.1; the unsafe hours are this product's own).
use Rattle.std.specs.Prelude.{◌≡◌, ℕ, ◌+◌, ◌-◌, ◌^◌, ◌<◌, ◌≤◌, ◌&&◌, not, nat_lt, Bool, if◌then◌else◌, [], ◌∷◌, ◌++◌, length, slice_set, Option, Some, None}
use Rattle.units.specs.Cut.{NoSwitchWithin, SwitchWithin}
use Rattle.units.specs.declared.report.Report.{Report}
use Rattle.units.specs.declared.report.Container.{Container}
use Rattle.units.specs.declared.trigger.TriggerType.{TriggerType}
use Rattle.units.specs.declared.trigger.TriggerType.TheVariants.{TariffTimeChange, TimeLimit}
use Rattle.meter.specs.declared.horizon.Horizon.{Horizon}
use Rattle.meter.specs.Horizons.{is_unsafe, has_unsafe}
use Rattle.meter.specs.Contents.{Contents, horizon_of, open_of}

-- the rule for joining: no unsafe hour lies after the container's last moment and not after the report's, and the seconds stay below 2^32
abbrev pub may_join : Option Horizon → Container → Report → Bool
may_join horizon c r = not (has_unsafe horizon c.last r.moment) && nat_lt (c.seconds + r.seconds) (2 ^ 32)

-- the trigger that closes the container before a report that may not join it
abbrev pub trigger_of : Option Horizon → Container → Report → TriggerType
trigger_of horizon c r = if has_unsafe horizon c.last r.moment then TariffTimeChange else TimeLimit

-- the container with the report
abbrev pub extended : Container → Report → Container
extended c r = record { lsn = c.lsn; group = c.group; up = c.up + r.up; down = c.down + r.down; seconds = c.seconds + r.seconds; first = c.first; last = r.moment; reports = c.reports + 1 }

-- the container that a report opens
abbrev pub opened : ℕ → Report → Container
opened lsn r = record { lsn = lsn; group = r.group; up = r.up; down = r.down; seconds = r.seconds; first = r.moment; last = r.moment; reports = 1 }

-- the report in the container
abbrev pub with_joined : Contents → Container → Report → Contents
with_joined s c r = record s { containers = slice_set s.containers (c.lsn - 1) (extended c r) }

-- the container closed
abbrev pub with_closed : Contents → Container → TriggerType → ℕ → Contents
with_closed s c trigger moment = record s { closes = slice_set s.closes (c.lsn - 1) (Some (record { trigger = trigger; moment = moment })) }

-- the report in a container of its own, the next one
abbrev pub with_opened : Contents → Report → Contents
with_opened s r = record s { containers = s.containers ++ opened (length s.containers + 1) r ∷ []; closes = s.closes ++ None ∷ [] }

-- the report taken, where this is its group's open container
abbrev pub report_taken : Contents → Report → Option Container → Contents
report_taken s r None = with_opened s r
report_taken s r (Some c) =
    if may_join (horizon_of s r.group) c r then with_joined s c r else
    with_opened (with_closed s c (trigger_of (horizon_of s r.group) c r) r.moment) r

-- after a report: it joins the group's open container where the rule for joining allows it, or closes it and opens the next
abbrev pub after_report : Contents → Report → Contents
after_report s r = report_taken s r (open_of s r.group)

-- the rule for joining, of a report that is taken: where no unsafe hour lies after the open container's last moment and not after
-- the report's, and the seconds stay below 2^32, it joins that container; an unsafe hour closes the container with TARIFF_TIME_CHANGE,
-- and else too many seconds with TIME_LIMIT, at the report's moment; the report opens the next one then, and where none is open
pub record IsTaken (s : Contents) (r : Report) (t : Contents) : Type 0 where
  pub joins : (c : Container) → open_of s r.group ≡ Some c → NoSwitchWithin (is_unsafe (horizon_of s r.group)) c.last r.moment → c.seconds + r.seconds < 2 ^ 32 → t ≡ with_joined s c r
  pub unsafe_hour : (c : Container) → open_of s r.group ≡ Some c → SwitchWithin (is_unsafe (horizon_of s r.group)) c.last r.moment → t ≡ with_opened (with_closed s c TariffTimeChange r.moment) r
  pub too_long : (c : Container) → open_of s r.group ≡ Some c → NoSwitchWithin (is_unsafe (horizon_of s r.group)) c.last r.moment → 2 ^ 32 ≤ c.seconds + r.seconds → t ≡ with_opened (with_closed s c TimeLimit r.moment) r
  pub none_open : open_of s r.group ≡ None → t ≡ with_opened s r
