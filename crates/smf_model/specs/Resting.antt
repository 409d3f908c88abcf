-- How long a session rests: from which moment on a tick may do something to it, where nothing else comes before (TS 32.255, 5.2.1; the moment is this product's own).
use Rattle.std.specs.Prelude.{◌≡◌, ℕ, ◌≤◌, nat_le, false, if◌then◌else◌, Option, Some, None, is_some, fold}
use Rattle.units.specs.declared.report.Container.{Container}
use Rattle.units.specs.Limits.{greatest_moment}
use Rattle.meter.specs.Horizons.{least_unsafe}
use Rattle.quotas.specs.Due.{due_of}
use Rattle.quotas.specs.Deadline.{earlier, deadline, has_come}
use Rattle.smf_model.specs.declared.setup.SmfSetup.{SmfSetup}
use Rattle.smf_model.specs.declared.session.Entry.{Entry}
use Rattle.smf_model.specs.declared.session.Session.{Session}
use Rattle.smf_model.specs.Rules.{limits_of}
use Rattle.smf_model.specs.Settle.{open_of}
use Rattle.smf_model.specs.Freeze.{waiting_count, next_operation}
use Rattle.smf_model.specs.Machine.{finished}

-- a session is at rest: no request is due to be frozen, and no container is to be given up as too much
pub record IsAtRest (setup : SmfSetup) (s : Session) : Type 0 where
  pub next : next_operation setup s ≡ None
  pub few : waiting_count s.holdings ≤ setup.held_max

-- a moment, where it is within the range of moments
abbrev pub within_range : Option ℕ → Option ℕ
within_range None = None
within_range (Some moment) = if nat_le moment greatest_moment then Some moment else None

-- the first unsafe hour of an open container
abbrev pub unsafe_from : Entry → Option Container → Option ℕ
unsafe_from e None = None
unsafe_from e (Some c) = within_range (least_unsafe e.horizon c.last)

-- the moment at which a rating group's rest ends: that of its deadline or its unsafe hour, or the first one where a trigger is due whatever the moment is
abbrev pub rest_end_with : SmfSetup → Session → Option Container → Entry → Option ℕ
rest_end_with setup s container e =
    if is_some (due_of e.quota container false 0 (limits_of setup s e.number)) then Some 0 else earlier (deadline e.quota) (unsafe_from e container)

-- with its open container
abbrev pub rest_end_in : SmfSetup → Session → Entry → Option ℕ
rest_end_in setup s e = rest_end_with setup s (open_of e.number s.holdings) e

-- the moment at which a session's rest ends: the earliest of its rating groups
abbrev pub rest_end : SmfSetup → Session → Option ℕ
rest_end setup s = fold (λ end e. earlier end (rest_end_in setup s e)) None s.groups

-- up to then a tick leaves it as it is
abbrev pub RestsUntilEnd : SmfSetup → Session → Type 0
RestsUntilEnd setup s = (now : ℕ) → now ≤ greatest_moment → has_come now (rest_end setup s) ≡ false → finished setup now s ≡ s
