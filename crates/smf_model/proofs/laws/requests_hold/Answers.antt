use Rattle.smf_model.proofs.ContentRuns.{contents_run}
use Rattle.smf_model.proofs.laws.requests_hold.Goals as goal

pub returns : goal.returns
returns c = contents_run
