use Rattle.chf_core.proofs.Deciding.{no_session, by_kept}
use Rattle.chf_core.proofs.session_laws.sessions_decide.Goals as goal

pub returns-clause-unnamed : goal.returns-clause-unnamed
returns-clause-unnamed c = no_session

pub returns-clause-named : goal.returns-clause-named
returns-clause-named c = by_kept
