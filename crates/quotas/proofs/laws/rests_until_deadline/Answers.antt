use Rattle.quotas.proofs.Deadlines
use Rattle.quotas.proofs.laws.rests_until_deadline.Goals as goal

pub returns : goal.returns
returns c = Deadlines.rests_until_deadline
