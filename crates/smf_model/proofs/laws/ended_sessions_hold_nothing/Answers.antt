use Rattle.smf_model.proofs.Ended.{nothing_run}
use Rattle.smf_model.proofs.laws.ended_sessions_hold_nothing.Goals as goal

pub returns : goal.returns
returns c = nothing_run
