use Rattle.smf_model.proofs.ExcessRuns.{ends}
use Rattle.smf_model.proofs.laws.oldest_are_given_up.Goals as goal

pub returns : goal.returns
returns c = ends
