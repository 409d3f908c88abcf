-- What a meter answers to a report (this product's own).
use Rattle.std.specs.Prelude.{◌≡◌, ℕ, ◌+◌, ◌^◌, ◌<◌, ◌==◌, ◌&&◌, ◌||◌, ◌⊎◌, not, nat_lt, nat_le, Bool, true, if◌then◌else◌, List, [], ◌∷◌, ◌++◌, length, map, fold, max, sum_by, Result, Ok, Err}
use Rattle.std.specs.List.{list_any}
use Rattle.units.specs.Limits.{most_groups, most_reports}
use Rattle.units.specs.declared.report.Report.{Report}
use Rattle.units.specs.declared.report.Container.{Container}
use Rattle.meter.specs.declared.refusal.Seen.{Seen}
use Rattle.meter.specs.declared.refusal.Seen.TheVariants.{New, Known}
use Rattle.meter.specs.declared.refusal.MeterRefusal.{MeterRefusal}
use Rattle.meter.specs.declared.refusal.MeterRefusal.TheVariants.{OutOfStep, TooLarge, MomentBack, TooManyReports, TooManyGroups}
use Rattle.meter.specs.Contents.{Contents, report_total}

-- how many reports the group has
abbrev pub group_total : List Container → ℕ → ℕ
group_total containers group = sum_by (λ c. if c.group == group then c.reports else 0) containers

-- the number that the group's next report has
abbrev pub expected_of : Contents → ℕ → ℕ
expected_of contents group = 1 + group_total contents.containers group

-- the last moment of the session's reports, 0 before the first
abbrev pub latest : List Container → ℕ
latest [] = 0
latest (c ∷ cs) = max c.last (latest cs)

-- the group is among the groups
abbrev pub is_in : ℕ → List ℕ → Bool
is_in group groups = list_any (λ g. g == group) groups

-- with the group at the end, unless it is there
abbrev pub with_group : List ℕ → ℕ → List ℕ
with_group groups group = if is_in group groups then groups else groups ++ group ∷ []

-- the groups that had a report or a horizon, each once
abbrev pub groups_of : Contents → List ℕ
groups_of contents = fold with_group [] (map (λ c. c.group) contents.containers ++ map (λ h. h.group) contents.horizons)

-- the group had a report or a horizon, or fewer groups than a session may have had one
abbrev pub HasPlaceFor : Contents → ℕ → Type 0
HasPlaceFor contents group = (is_in group (groups_of contents) ≡ true) ⊎ (length (groups_of contents) < most_groups)

-- more than 2^40 octets up or down, or more than 86400 seconds
abbrev pub is_too_large : Report → Bool
is_too_large r = nat_lt (2 ^ 40) r.up || nat_lt (2 ^ 40) r.down || nat_lt 86400 r.seconds

-- the answer to a report: what comes first decides
abbrev pub answer_of : Contents → Report → Result Seen MeterRefusal
answer_of s r =
    if nat_le 1 r.number && nat_lt r.number (expected_of s r.group) then Ok Known else
    (if not (r.number == expected_of s r.group) then Err (OutOfStep (expected_of s r.group)) else
    (if is_too_large r then Err TooLarge else
    (if nat_lt r.moment (latest s.containers) then Err (MomentBack (latest s.containers)) else
    (if nat_le most_reports (report_total s.containers) then Err TooManyReports else
    (if not (is_in r.group (groups_of s)) && nat_le most_groups (length (groups_of s)) then Err TooManyGroups else
    Ok New)))))
