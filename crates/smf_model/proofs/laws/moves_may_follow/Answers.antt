use Rattle.smf_model.proofs.Traces.{valid_run}
use Rattle.smf_model.proofs.laws.moves_may_follow.Goals as goal

pub returns : goal.returns
returns c = valid_run
