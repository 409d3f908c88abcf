use Rattle.smf_model.proofs.GroupRuns.{steps_run}
use Rattle.smf_model.proofs.laws.quotas_by_steps.Goals as goal

pub returns : goal.returns
returns c = steps_run c.by_whole_list.ensures.due
