use Rattle.smf_model.proofs.LatestRules.{latest_run}
use Rattle.smf_model.proofs.laws.rules_are_latest.Goals as goal

pub returns : goal.returns
returns c = latest_run
