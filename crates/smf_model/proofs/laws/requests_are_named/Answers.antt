use Rattle.smf_model.proofs.Named.{named_run}
use Rattle.smf_model.proofs.laws.requests_are_named.Goals as goal

pub returns : goal.returns
returns c = named_run
