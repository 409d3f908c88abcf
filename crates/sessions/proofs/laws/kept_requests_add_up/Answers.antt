use Rattle.sessions.proofs.Standing.{times_add}
use Rattle.sessions.proofs.laws.kept_requests_add_up.Goals as goal

pub returns : goal.returns
returns c = times_add
