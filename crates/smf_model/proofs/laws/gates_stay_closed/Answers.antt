use Rattle.smf_model.proofs.Closing.{closed_run}
use Rattle.smf_model.proofs.laws.gates_stay_closed.Goals as goal

pub returns : goal.returns
returns c = closed_run
