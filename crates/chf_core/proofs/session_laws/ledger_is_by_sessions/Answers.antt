use Rattle.chf_core.proofs.SessionLines.{by_sessions}
use Rattle.chf_core.proofs.Switches.{replies_tell}
use Rattle.chf_core.proofs.session_laws.ledger_is_by_sessions.Goals as goal

pub returns-clause-lines : goal.returns-clause-lines
returns-clause-lines c = by_sessions

pub returns-clause-switches : goal.returns-clause-switches
returns-clause-switches c = replies_tell
