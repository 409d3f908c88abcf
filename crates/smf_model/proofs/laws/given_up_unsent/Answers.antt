use Rattle.smf_model.proofs.Givings.{left_run}
use Rattle.smf_model.proofs.laws.given_up_unsent.Goals as goal

pub returns : goal.returns
returns c = left_run
