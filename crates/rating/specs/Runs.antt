-- What the prices of a run and of a cut are, by the prices of their reports (runs and cuts are this product's own; TS 32.255, 5.2.1).
use Rattle.std.specs.Prelude.{◌≡◌, ℕ, List, ◌++◌, sum_by, All, Contains}
use Rattle.std.specs.List.Sorted.{IsNonDecreasingBy}
use Rattle.units.specs.declared.report.Report.{Report}
use Rattle.units.specs.declared.report.Container.{Container}
use Rattle.units.specs.Cut.{IsRun, IsCut, AreSummed, reports_of, containers_of}
use Rattle.rating.specs.Price.{report_price, container_price}
use Rattle.rating.specs.Switch.{is_switch}

-- the moments of reports do not go back
abbrev pub AreInOrder : List Report → Type 0
AreInOrder reports = IsNonDecreasingBy (λ (r : Report). r.moment) reports

-- the price of some reports: each of its own amounts at its own moment
abbrev pub reports_price : List (List (List ℕ)) → List Report → ℕ
reports_price rows reports = sum_by (report_price rows) reports

-- the price of some containers: each of its sums at its first moment
abbrev pub containers_price : List (List (List ℕ)) → List Container → ℕ
containers_price rows containers = sum_by (container_price rows) containers

-- A run under the switches of its group: the price of the container's sums at its first moment is the sum of the prices of the reports.
abbrev pub RunsArePricedRight : List (List (List ℕ)) → Type 0
RunsArePricedRight rows =
    (run : List Report) (container : Container) → All (λ (r : Report). r.group ≡ container.group) run → AreInOrder run → IsRun (is_switch rows container.group) run container → container_price rows container ≡ reports_price rows run

-- a container that is priced right: some consecutive reports are summed in it, and it costs what they cost
pub record IsPricedRight (rows : List (List (List ℕ))) (reports : List Report) (container : Container) : Type 0 where
  pub before : List Report
  pub run : List Report
  pub after : List Report
  pub part : reports ≡ before ++ (run ++ after)
  pub summed : AreSummed run container
  pub price : container_price rows container ≡ reports_price rows run

-- The containers of a group that are a cut of its reports under its switches: each costs what the reports that are summed in it cost, and all together cost what all the reports cost.
abbrev pub CutsArePricedRight : List (List (List ℕ)) → Type 0
CutsArePricedRight rows =
    (group : ℕ) (reports : List Report) (containers : List Container) → AreInOrder (reports_of group reports) → IsCut (is_switch rows group) (reports_of group reports) (containers_of group containers)
    → ((container : Container) → Contains (containers_of group containers) container → IsPricedRight rows (reports_of group reports) container)
    × (containers_price rows (containers_of group containers) ≡ reports_price rows (reports_of group reports))
