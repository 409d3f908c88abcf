use Rattle.chf_core.proofs.OwnKeys.{next_kept, own_kept}
use Rattle.chf_core.proofs.session_laws.kept_requests_grow.Goals as goal

pub returns-clause-each : goal.returns-clause-each
returns-clause-each c = next_kept

pub returns-clause-own : goal.returns-clause-own
returns-clause-own c = own_kept
