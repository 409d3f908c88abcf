use Rattle.smf_model.proofs.ReportRuns.{reports_run}
use Rattle.smf_model.proofs.laws.containers_are_cuts.Goals as goal

pub returns : goal.returns
returns c = reports_run c.reports_keep_cuts.ensures
