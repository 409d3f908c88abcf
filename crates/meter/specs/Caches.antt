-- What a meter keeps beside what came of the session.
use Rattle.std.specs.Prelude.{◌≡◌, ℕ, ◌+◌, ◌-◌, ◌^◌, ◌<◌, ◌≤◌, ◌==◌, List, [], ◌∷◌, length, map, fold, All, false, min, nat_lt, if◌then◌else◌, vec_capacity, vec_len, Some}
use Rattle.std.specs.List.{AllByRecursion}
use Rattle.units.specs.Limits.{most_groups, most_reports}
use Rattle.units.specs.declared.report.Container.{Container}
use Rattle.units.specs.declared.report.Report.{Report}
use Rattle.meter.specs.declared.counts.GroupCount.{GroupCount}
use Rattle.meter.specs.declared.meter.Meter.TheInside.{Inside}
use Rattle.meter.specs.Meter.{Contents, Metered, group_total, report_total, latest, groups_of, with_group, is_in, last_in, AreClosedButOpen, IsSmall, AreNumbered}

-- the group's next number, and the number of its last container
pub record IsCountOf (containers : List Container) (g : GroupCount) : Type 0 where
  pub next : g.expected ≡ 1 + group_total containers g.group
  pub final : Container
  pub is_last : last_in g.group containers ≡ Some final
  pub number : final.lsn ≡ g.lsn

-- the counts with one more report of the group, held by the container with this number
abbrev pub counted_on : List GroupCount → ℕ → ℕ → List GroupCount
counted_on [] group lsn = record { group = group; expected = 2; lsn = lsn } ∷ []
counted_on (g ∷ gs) group lsn = if g.group == group then record { group = g.group; expected = g.expected + 1; lsn = lsn } ∷ gs else g ∷ counted_on gs group lsn

-- a report that is the group's next one, in order and within the limits
pub record Admitted (containers : List Container) (r : Report) : Type 0 where
  pub number : r.number ≡ 1 + group_total containers r.group
  pub up : r.up ≤ 2 ^ 40
  pub down : r.down ≤ 2 ^ 40
  pub seconds : r.seconds ≤ 86400
  pub later : latest containers ≤ r.moment
  pub few : report_total containers < most_reports

-- no group stands twice
abbrev pub AreDistinct : List ℕ → Type 0
AreDistinct [] = Unit {0}
AreDistinct (g ∷ gs) = (is_in g gs ≡ false) × AreDistinct gs

-- what is kept of the containers: each group's count, the last moment and the number of reports
pub record AreKept (containers : List Container) (counts : List GroupCount) (moment reports : ℕ) : Type 0 where
  pub small : All IsSmall containers
  pub numbered : AreNumbered 1 containers
  pub last : moment ≡ latest containers
  pub total : reports ≡ report_total containers
  pub few : reports ≤ most_reports
  pub groups : map (λ g. g.group) counts ≡ fold with_group [] (map (λ c. c.group) containers)
  pub each : AllByRecursion (IsCountOf containers) counts

-- what came of the session
abbrev pub contents_of : Inside → Contents
contents_of m = record { containers = m.containers.items; closes = m.closes.items; horizons = m.horizons.items }

-- for how many reports there is a place, where each group's horizon has one
abbrev pub seen : Inside → Metered
seen m = record {
  contents = contents_of m;
  room = if nat_lt (vec_capacity m.horizons) most_groups then 0 else
      min (min (vec_capacity m.containers - vec_len m.containers) (vec_capacity m.closes - vec_len m.closes)) (vec_capacity m.counts - vec_len m.counts);
}

-- what a meter keeps says what came of the session
pub record IsSound (m : Inside) : Type 0 where
  pub kept : AreKept m.containers.items m.counts.items m.last m.total
  pub closes : length m.closes.items ≡ length m.containers.items
  pub closed : AreClosedButOpen (contents_of m)
  pub horizons : AreDistinct (map (λ h. h.group) m.horizons.items)
  pub groups : length (groups_of (contents_of m)) ≤ most_groups
