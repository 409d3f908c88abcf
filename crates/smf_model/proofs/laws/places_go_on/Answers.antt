use Rattle.smf_model.proofs.Later.{later_run}
use Rattle.smf_model.proofs.laws.places_go_on.Goals as goal

pub returns : goal.returns
returns c = later_run
