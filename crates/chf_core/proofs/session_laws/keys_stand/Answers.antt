use Rattle.chf_core.proofs.OwnKeys.{own, creates, stand, references}
use Rattle.chf_core.proofs.session_laws.keys_stand.Goals as goal

pub returns-clause-own : goal.returns-clause-own
returns-clause-own c = own

pub returns-clause-creates : goal.returns-clause-creates
returns-clause-creates c = creates

pub returns-clause-stand : goal.returns-clause-stand
returns-clause-stand c = stand

pub returns-clause-references : goal.returns-clause-references
returns-clause-references c = references
