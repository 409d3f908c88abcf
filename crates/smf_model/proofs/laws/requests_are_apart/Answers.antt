use Rattle.smf_model.proofs.Apart.{requests_run, sessions_run}
use Rattle.smf_model.proofs.laws.requests_are_apart.Goals as goal

pub returns-clause-requests : goal.returns-clause-requests
returns-clause-requests c = requests_run

pub returns-clause-sessions : goal.returns-clause-sessions
returns-clause-sessions c = sessions_run
