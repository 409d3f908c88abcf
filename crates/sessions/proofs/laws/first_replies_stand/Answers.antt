use Rattle.sessions.proofs.Standing.{first_stands, new_is_first}
use Rattle.sessions.proofs.laws.first_replies_stand.Goals as goal

pub returns-clause-stand : goal.returns-clause-stand
returns-clause-stand c = first_stands

pub returns-clause-new : goal.returns-clause-new
returns-clause-new c = new_is_first
