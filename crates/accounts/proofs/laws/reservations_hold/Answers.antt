use Rattle.accounts.proofs.Since.{has_left, owes_nothing, has_none}
use Rattle.accounts.proofs.laws.reservations_hold.Goals as goal

pub returns-clause-left : goal.returns-clause-left
returns-clause-left c = has_left

pub returns-clause-owed : goal.returns-clause-owed
returns-clause-owed c = owes_nothing

pub returns-clause-none : goal.returns-clause-none
returns-clause-none c = has_none
