use Rattle.smf_model.proofs.Limits.{waits_run}
use Rattle.smf_model.proofs.laws.few_wait.Goals as goal

pub returns : goal.returns
returns c = waits_run
