-- Settling: for each rating group the first due trigger closes its open container, if there is one, and has its effect (TS 32.255, 5.2.1).
use Rattle.std.specs.Prelude.{ℕ, ◌==◌, ◌&&◌, ◌||◌, Bool, true, false, if◌then◌else◌, Option, Some, None, List, map}
use Rattle.std.specs.List.{find, list_any}
use Rattle.units.specs.declared.report.Container.{Container}
use Rattle.units.specs.declared.trigger.TriggerType.{TriggerType}
use Rattle.meter.specs.Horizons.{has_unsafe}
use Rattle.quotas.specs.Quota.{fired}
use Rattle.quotas.specs.Due.{due_of, in_open}
use Rattle.smf_model.specs.declared.setup.SmfSetup.{SmfSetup}
use Rattle.smf_model.specs.declared.session.Place.{Place}
use Rattle.smf_model.specs.declared.session.Place.TheVariants.{Open, Waiting, Frozen}
use Rattle.smf_model.specs.declared.session.Holding.{Holding}
use Rattle.smf_model.specs.declared.session.Entry.{Entry}
use Rattle.smf_model.specs.declared.session.Session.{Session}
use Rattle.smf_model.specs.Rules.{is_immediate_for, limits_of}

-- a container is open
abbrev pub is_open : Place → Bool
is_open Open = true
is_open other = false

-- a container waits
abbrev pub is_waiting : Place → Bool
is_waiting Waiting = true
is_waiting other = false

-- a container is frozen
abbrev pub is_frozen : Place → Bool
is_frozen Frozen = true
is_frozen other = false

-- the open container of a rating group, of which there is at most one (TS 32.255, 5.2.1)
abbrev pub is_open_of : ℕ → Holding → Bool
is_open_of group h = (h.container.group == group) && is_open h.place

-- the container alone
abbrev pub container_in : Option Holding → Option Container
container_in None = None
container_in (Some h) = Some h.container

-- the open container of a rating group
abbrev pub open_of : ℕ → List Holding → Option Container
open_of group holdings = container_in (find (is_open_of group) holdings)

-- a rating group of the session
abbrev pub entry_of : ℕ → List Entry → Option Entry
entry_of group entries = find (λ e. e.number == group) entries

-- the first due trigger of a rating group, with this open container
abbrev pub due_with : SmfSetup → ℕ → Session → Option Container → Entry → Option TriggerType
due_with setup now s container e = due_of e.quota container (in_open container (λ c. has_unsafe e.horizon c.last now)) now (limits_of setup s e.number)

-- the first due trigger of a rating group
abbrev pub due_in : SmfSetup → ℕ → Session → Entry → Option TriggerType
due_in setup now s e = due_with setup now s (open_of e.number s.holdings) e

-- its effect on the rating group
abbrev pub fire : Option TriggerType → Entry → Entry
fire None e = e
fire (Some trigger) e = record e { quota = fired trigger e.quota }

-- and on its open container
abbrev pub close : ℕ → Option TriggerType → Holding → Holding
close moment None h = h
close moment (Some trigger) h = record h { trigger = Some trigger; moment = moment; place = Waiting }

-- that of a rating group which the session may not have
abbrev pub due_at : SmfSetup → ℕ → Session → Option Entry → Option TriggerType
due_at setup now s None = None
due_at setup now s (Some e) = due_in setup now s e

-- an open container is closed by what is due in its rating group
abbrev pub close_due : SmfSetup → ℕ → Session → Holding → Holding
close_due setup now s h = if is_open h.place then close now (due_at setup now s (entry_of h.container.group s.groups)) h else h

-- whether a trigger that came for a rating group is of immediate category
abbrev pub is_at_once : Session → ℕ → Option TriggerType → Bool
is_at_once s group None = false
is_at_once s group (Some trigger) = is_immediate_for s group trigger

-- a session after it is settled: each rating group by itself
abbrev pub settled : SmfSetup → ℕ → Session → Session
settled setup now s = record s {
  groups = map (λ e. fire (due_in setup now s e) e) s.groups;
  holdings = map (close_due setup now s) s.holdings;
  at_once = s.at_once || list_any (λ e. is_at_once s e.number (due_in setup now s e)) s.groups;
}
