use Rattle.smf_model.proofs.Finals.{final_run}
use Rattle.smf_model.proofs.laws.answers_are_final.Goals as goal

pub returns : goal.returns
returns c = final_run
