-- What came of a session's reports: its containers, how each was closed, and its groups' horizons (TS 32.255, 5.2.1; TS 32.290, 6.1.1.3; horizons are this product's own).
use Rattle.std.specs.Prelude.{◌≡◌, ℕ, ◌+◌, ◌-◌, ◌*◌, ◌^◌, ◌≤◌, ◌==◌, List, [], ◌∷◌, sum_by, slice_get, Option, Some, None}
use Rattle.std.specs.List.{find, last_or}
use Rattle.std.specs.Option.{option_flatten}
use Rattle.units.specs.Cut.{containers_of}
use Rattle.units.specs.declared.report.Container.{Container}
use Rattle.meter.specs.declared.close.Close.{Close}
use Rattle.meter.specs.declared.horizon.Horizon.{Horizon}

-- what came of the session so far: the containers in order of their numbers (lsn), from 1; for each of them, in the same order,
-- how it was closed, or None while it is open; and the horizon of each rating group that has one
pub record Contents : Type 0 where
  pub containers : List Container
  pub closes : List (Option Close)
  pub horizons : List Horizon

-- what callers see of a meter: these, and for how many more reports there is a place (where for one, for each group's horizon too)
pub record Metered : Type 0 where
  pub contents : Contents
  pub room : ℕ

-- before the first report and the first horizon
abbrev pub nothing_yet : Contents
nothing_yet = record { containers = []; closes = []; horizons = [] }

-- the group's horizon
abbrev pub horizon_of : Contents → ℕ → Option Horizon
horizon_of contents group = find (λ h. h.group == group) contents.horizons

-- how the container with this number was closed
abbrev pub close_of : Contents → ℕ → Option Close
close_of contents lsn = option_flatten (slice_get contents.closes (lsn - 1))

-- the last container of the group in a list of containers
abbrev pub last_in : ℕ → List Container → Option Container
last_in group containers = last_or None (containers_of group containers)

-- and of the session
abbrev pub last_of : Contents → ℕ → Option Container
last_of contents group = last_in group contents.containers

-- the container, unless there is a close
abbrev pub unless_closed : Option Container → Option Close → Option Container
unless_closed last None = last
unless_closed last (Some close) = None

-- how the container was closed, if there is one and it was
abbrev pub close_of_last : Contents → Option Container → Option Close
close_of_last contents None = None
close_of_last contents (Some c) = close_of contents c.lsn

-- the group's open container: its last one, unless that is closed
abbrev pub open_of : Contents → ℕ → Option Container
open_of contents group = unless_closed (last_of contents group) (close_of_last contents (last_of contents group))

-- the group has an open container, whose last moment is this
pub record IsOpenUntil (s : Contents) (group moment : ℕ) : Type 0 where
  pub container : Container
  pub is_open : open_of s group ≡ Some container
  pub last : container.last ≡ moment

-- a container that is not closed is the open one of its group
abbrev pub AreClosedButOpen : Contents → Type 0
AreClosedButOpen s = (at : ℕ) → (c : Container) → slice_get s.containers at ≡ Some c → close_of s c.lsn ≡ None → open_of s c.group ≡ Some c

-- each container is numbered by its place, from this number on
abbrev pub AreNumbered : ℕ → List Container → Type 0
AreNumbered next [] = Unit {0}
AreNumbered next (c ∷ cs) = (c.lsn ≡ next) × AreNumbered (next + 1) cs

-- a container of some reports, each of at most 2^40 octets up and down
pub record IsSmall (c : Container) : Type 0 where
  pub some : 1 ≤ c.reports
  pub up : c.up ≤ 2 ^ 40 * c.reports
  pub down : c.down ≤ 2 ^ 40 * c.reports

-- how many reports the session has
abbrev pub report_total : List Container → ℕ
report_total containers = sum_by (λ c. c.reports) containers

-- no horizon was set, and no group's last container is closed
pub record IsUndisturbed (s : Contents) : Type 0 where
  pub no_horizon : s.horizons ≡ []
  pub all_open : (group : ℕ) → open_of s group ≡ last_of s group
