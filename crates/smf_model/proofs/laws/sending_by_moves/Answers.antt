use Rattle.smf_model.proofs.Traces.{sent_run}
use Rattle.smf_model.proofs.laws.sending_by_moves.Goals as goal

pub returns : goal.returns
returns c = sent_run
