use Rattle.smf_model.proofs.Counts.{counted}
use Rattle.smf_model.proofs.laws.entries_are_counted.Goals as goal

pub returns : goal.returns
returns c = counted
