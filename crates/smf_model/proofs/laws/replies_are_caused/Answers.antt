use Rattle.smf_model.proofs.Caused.{caused}
use Rattle.smf_model.proofs.laws.replies_are_caused.Goals as goal

pub returns : goal.returns
returns c = caused
