use Rattle.smf_model.proofs.Told.{told_run}
use Rattle.smf_model.proofs.laws.giving_up_is_told.Goals as goal

pub returns : goal.returns
returns c = told_run
