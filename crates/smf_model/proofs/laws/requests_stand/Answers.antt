use Rattle.smf_model.proofs.Prefixes.{standing}
use Rattle.smf_model.proofs.laws.requests_stand.Goals as goal

pub returns : goal.returns
returns c = standing
