use Rattle.smf_model.proofs.Runs.{run}
use Rattle.smf_model.proofs.laws.requests_in_order.Goals as goal

pub returns : goal.returns
returns c = run
