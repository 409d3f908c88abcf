use Rattle.smf_model.proofs.Settles.{settles_run}
use Rattle.smf_model.proofs.laws.settles_once.Goals as goal

pub returns : goal.returns
returns c = settles_run c.fires_once.ensures
