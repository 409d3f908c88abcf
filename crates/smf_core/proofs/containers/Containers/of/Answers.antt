use Rattle.smf_core.proofs.Stored.{apart}
use Rattle.smf_core.proofs.containers.Containers.of.Goals as goal

pub returns : goal.returns
returns c = apart c.args.holdings.now c.in_ok-containers.containers.items c.in_ok-stages.stages.items c.in_ok-containers.ensures c.in_ok-stages.ensures
