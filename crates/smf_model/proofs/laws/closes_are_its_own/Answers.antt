use Rattle.smf_model.proofs.Among.{among_run}
use Rattle.smf_model.proofs.laws.closes_are_its_own.Goals as goal

pub returns : goal.returns
returns c = among_run
