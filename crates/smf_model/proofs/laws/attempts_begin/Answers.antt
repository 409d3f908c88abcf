use Rattle.smf_model.proofs.Flights.{begins}
use Rattle.smf_model.proofs.laws.attempts_begin.Goals as goal

pub returns : goal.returns
returns c = begins
