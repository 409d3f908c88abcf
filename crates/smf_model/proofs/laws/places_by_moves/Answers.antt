use Rattle.smf_model.proofs.Traces.{moved_run}
use Rattle.smf_model.proofs.Exact.{exact_run}
use Rattle.smf_model.proofs.laws.places_by_moves.Goals as goal

pub returns-clause-places : goal.returns-clause-places
returns-clause-places c = moved_run

pub returns-clause-exact : goal.returns-clause-exact
returns-clause-exact c = exact_run
