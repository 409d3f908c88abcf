use Rattle.chf_core.proofs.ByKept.{sessions_by_kept}
use Rattle.chf_core.proofs.histories.sessions_are_by_kept.Goals as goal

pub returns : goal.returns
returns c = sessions_by_kept
