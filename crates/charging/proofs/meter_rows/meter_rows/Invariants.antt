use Rattle.std.proofs.Common.{◌≡◌, ◌≤◌, ◌+◌, ◌-◌, ◌^◌, ℕ, List}
use Rattle.csv.specs.declared.parser.State.{State}
use Rattle.units.specs.Cut.{AreWidestCuts, whole_hour}
use Rattle.units.specs.declared.report.Report.{Report}
use Rattle.meter.specs.Contents.{IsUndisturbed, report_total}
use Rattle.charging.specs.Rows.{StandsAt}
use Rattle.charging.proofs.Runs.{LeadsOn}
use Rattle.charging.proofs.meter_rows.meter_rows.Given as goal

abbrev pub invariant-loop-row : goal.invariant-loop-row
invariant-loop-row l = record {
  count : l.count ≡ report_total l.meter.contents.containers + 1;
  few : report_total l.meter.contents.containers ≤ 2 ^ 20;
  reads : (state : State) × (left : List ℕ) × (so_far : List Report) × StandsAt l.reader state left × LeadsOn l.fn.bytes state left l.count l.meter.contents so_far × AreWidestCuts whole_hour so_far l.meter.contents.containers;
  undisturbed : IsUndisturbed l.meter.contents;
}

abbrev pub decreases-loop-row : goal.decreases-loop-row
decreases-loop-row l = 2 ^ 20 - report_total l.meter.contents.containers
