-- Reports, changes and ends of traffic (TS 32.255, 5.2.1).
use Rattle.std.specs.Prelude.{ℕ, ◌+◌, ◌^◌, ◌<◌, ◌==◌, ◌||◌, nat_lt, Bool, false, if◌then◌else◌, Option, Some, None, List, [], ◌∷◌, ◌++◌, map, filter, length}
use Rattle.std.specs.List.{list_any}
use Rattle.units.specs.declared.report.Report.{Report}
use Rattle.units.specs.declared.report.Container.{Container}
use Rattle.units.specs.declared.trigger.TriggerType.{TriggerType}
use Rattle.units.specs.declared.trigger.TriggerType.TheVariants.{Final, AbnormalRelease}
use Rattle.meter.specs.declared.horizon.Horizon.{Horizon}
use Rattle.meter.specs.Joining.{may_join, trigger_of, extended, opened}
use Rattle.quotas.specs.Quota.{new_quota, asked, used}
use Rattle.smf_model.specs.declared.session.Life.{Life}
use Rattle.smf_model.specs.declared.session.Life.TheVariants.{Ending, Aborting, Ended}
use Rattle.smf_model.specs.declared.session.Why.{Why}
use Rattle.smf_model.specs.declared.session.Place.TheVariants.{Open, GivenUp}
use Rattle.smf_model.specs.declared.session.Holding.{Holding}
use Rattle.smf_model.specs.declared.session.Entry.{Entry}
use Rattle.smf_model.specs.declared.session.Session.{Session}
use Rattle.smf_model.specs.Rules.{is_immediate, is_immediate_for}
use Rattle.smf_model.specs.Sending.{at_rest}
use Rattle.smf_model.specs.Settle.{is_open, is_waiting, is_frozen, is_open_of, open_of, entry_of, fire, close, is_at_once}

-- the horizon of a rating group that the session may not have
abbrev pub horizon_in : Option Entry → Option Horizon
horizon_in None = None
horizon_in (Some e) = e.horizon

-- what closes the group's open container before a report: a switch that may lie between, or too many seconds (TS 32.255, 5.2.1)
abbrev pub closes_before : Option Horizon → Report → Option Container → Option TriggerType
closes_before horizon r None = None
closes_before horizon r (Some c) = if may_join horizon c r then None else Some (trigger_of horizon c r)

-- the open container of a rating group is closed, where something closes it
abbrev pub close_of : ℕ → ℕ → Option TriggerType → Holding → Holding
close_of group moment trigger h = if is_open_of group h then close moment trigger h else h

-- the sums of a container and a report are of their types
pub record SumsFit (c : Container) (r : Report) : Type 0 where
  pub up : c.up + r.up < 2 ^ 64
  pub down : c.down + r.down < 2 ^ 64
  pub seconds : c.seconds + r.seconds < 2 ^ 32
  pub reports : c.reports + 1 < 2 ^ 32

-- the report in the open container that is left, or in the next one
abbrev pub extend_of : Report → Holding → Holding
extend_of r h = if is_open_of r.group h then record h { container = extended h.container r } else h

-- a container that a report opens
abbrev pub first_of : ℕ → Report → Holding
first_of lsn r = record { container = opened lsn r; trigger = None; moment = r.moment; place = Open }

-- a report is taken into the group's open container, or opens one
abbrev pub joined : Report → List Holding → List Holding
joined r holdings = if list_any (is_open_of r.group) holdings then map (extend_of r) holdings else holdings ++ first_of (length holdings + 1) r ∷ []

-- what closes the open container does so before
abbrev pub taken : Report → Option TriggerType → List Holding → List Holding
taken r trigger holdings = joined r (map (close_of r.group r.moment trigger) holdings)

-- the group uses its quota, and expects the next report
abbrev pub count_entry : Report → Entry → Entry
count_entry r e = if e.number == r.group then record e { expected = r.number + 1; quota = used (r.up + r.down) r.seconds r.moment e.quota } else e

-- a report is counted after this close
abbrev pub counted_by : Report → Option TriggerType → Session → Session
counted_by r trigger s = record s {
  last = r.moment;
  reports = s.reports + 1;
  holdings = taken r trigger s.holdings;
  groups = map (count_entry r) s.groups;
  at_once = s.at_once || is_at_once s r.group trigger;
}

-- a report is counted
abbrev pub counted : Report → Session → Session
counted r s = counted_by r (closes_before (horizon_in (entry_of r.group s.groups)) r (open_of r.group s.holdings)) s

-- a rating group that wishes for quota
abbrev pub new_entry : ℕ → Entry
new_entry group = record { number = group; expected = 1; quota = new_quota; horizon = None }

-- a rating group, or a new one
abbrev pub or_new : ℕ → Option Entry → Entry
or_new group None = new_entry group
or_new group (Some e) = e

-- a rating group that wishes for quota
abbrev pub asked_entry : Entry → Entry
asked_entry e = record e { quota = asked e.quota }

-- the groups with that one, at its place
abbrev pub with_asked : ℕ → List Entry → List Entry
with_asked group entries =
    filter (λ e. nat_lt e.number group) entries ++ asked_entry (or_new group (entry_of group entries)) ∷ filter (λ e. nat_lt group e.number) entries

-- traffic of a group begins
abbrev pub started : ℕ → ℕ → Session → Session
started group moment s = record s { last = moment; groups = with_asked group s.groups }

-- every open container is closed
abbrev pub close_any : ℕ → TriggerType → Holding → Holding
close_any moment trigger h = if is_open h.place then close moment (Some trigger) h else h

-- a change is of immediate category where it is so for a group whose container it closes, or, where it closes none, for the session
abbrev pub has_open : Session → Bool
has_open s = list_any (λ h. is_open h.place) s.holdings

-- a change is of immediate category for the session
abbrev pub is_change_at_once : Session → TriggerType → Bool
is_change_at_once s trigger =
    if has_open s
    then list_any (λ h. if is_open h.place then is_immediate_for s h.container.group trigger else false) s.holdings
    else is_immediate s trigger

-- charging conditions change
abbrev pub changed : TriggerType → ℕ → Session → Session
changed trigger moment s = record s {
  last = moment;
  holdings = map (close_any moment trigger) s.holdings;
  groups = map (fire (Some trigger)) s.groups;
  at_once = s.at_once || is_change_at_once s trigger;
}

-- the session goes on no more: what is open is closed
abbrev pub without_traffic : Life → ℕ → TriggerType → Session → Session
without_traffic life moment trigger s = record s { life = life; holdings = map (close_any moment trigger) s.holdings }

-- the PDU session ended
abbrev pub detached : Bool → ℕ → Session → Session
detached abnormal moment s = record (if abnormal then without_traffic Aborting moment AbnormalRelease s else without_traffic Ending moment Final s) { last = moment }

-- the charging session is over
abbrev pub ended : ℕ → Session → Session
ended now s = record (without_traffic Ended now AbnormalRelease s) { request = None; sending = at_rest }

-- and what waits or is frozen is given up
abbrev pub give_up : Why → Holding → Holding
give_up why h = if is_waiting h.place || is_frozen h.place then record h { place = GivenUp why } else h

-- the charging session is over for this cause
abbrev pub ended_for : Why → ℕ → Session → Session
ended_for why now s = record (ended now s) { holdings = map (give_up why) (ended now s).holdings }
