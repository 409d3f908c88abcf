-- What holds of cuts as reports come, over all contents, reports and switches (TS 32.255, 5.2.1; cuts are this product's own).
use Rattle.std.specs.Prelude.{◌≡◌, ℕ, Bool, true, List, [], ◌∷◌, ◌++◌, Option}
use Rattle.units.specs.Cut.{IsCut, reports_of, containers_of}
use Rattle.units.specs.declared.report.Report.{Report}
use Rattle.units.specs.declared.report.Container.{Container}
use Rattle.meter.specs.declared.horizon.Horizon.{Horizon}
use Rattle.meter.specs.Horizons.{AreForeseen}
use Rattle.meter.specs.Meter.{Contents, horizon_of, may_join, extended, opened, after_report, AreNumbered}

-- a report keeps a cut
pub record ReportsKeepCuts : Type 0 where
  -- each group's, as the session takes it, under switches that the horizon of the report's group allows for
  pub taken : (s : Contents) (report : Report) (switches : ℕ → Bool) (reports : List Report) (group : ℕ)
      → AreNumbered 1 s.containers → (report.group ≡ group → AreForeseen (horizon_of s group) switches)
      → IsCut switches (reports_of group reports) (containers_of group s.containers)
      → IsCut switches (reports_of group (reports ++ report ∷ [])) (containers_of group (after_report s report).containers)
  -- as it joins the last container of its group, which it may by the group's horizon
  pub joined : (horizon : Option Horizon) (report : Report) (switches : ℕ → Bool) (reports : List Report) (front : List Container) (last : Container)
      → AreForeseen horizon switches → may_join horizon last report ≡ true
      → IsCut switches reports (front ++ last ∷ [])
      → IsCut switches (reports ++ report ∷ []) (front ++ extended last report ∷ [])
  -- as it opens the next container of its group, with any number
  pub opened : (report : Report) (switches : ℕ → Bool) (reports : List Report) (containers : List Container) (lsn : ℕ)
      → IsCut switches reports containers
      → IsCut switches (reports ++ report ∷ []) (containers ++ opened lsn report ∷ [])
