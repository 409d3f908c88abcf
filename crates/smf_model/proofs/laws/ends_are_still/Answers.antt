use Rattle.smf_model.proofs.Resting.{still_settled, dropped_same}
use Rattle.smf_model.proofs.laws.ends_are_still.Goals as goal

pub returns-clause-settled : goal.returns-clause-settled
returns-clause-settled c = still_settled

pub returns-clause-dropped : goal.returns-clause-dropped
returns-clause-dropped c = dropped_same
