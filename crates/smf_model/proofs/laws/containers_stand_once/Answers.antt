use Rattle.smf_model.proofs.Once.{once_run, given_run}
use Rattle.smf_model.proofs.laws.containers_stand_once.Goals as goal

pub returns-clause-places : goal.returns-clause-places
returns-clause-places c = once_run

pub returns-clause-causes : goal.returns-clause-causes
returns-clause-causes c = given_run
