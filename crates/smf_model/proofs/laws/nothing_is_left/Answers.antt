use Rattle.smf_model.proofs.Left.{left_run}
use Rattle.smf_model.proofs.laws.nothing_is_left.Goals as goal

pub returns : goal.returns
returns c = left_run
