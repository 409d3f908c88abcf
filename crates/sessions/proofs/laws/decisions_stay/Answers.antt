use Rattle.sessions.proofs.Deciding.{decisions_stay}
use Rattle.sessions.proofs.laws.decisions_stay.Goals as goal

pub returns : goal.returns
returns c = decisions_stay
