use Rattle.quotas.proofs.Sums.{sums}
use Rattle.quotas.proofs.Stands.{stands}
use Rattle.quotas.proofs.Asks.{asks}
use Rattle.quotas.proofs.ByList.{due_by_list}
use Rattle.quotas.proofs.laws.by_whole_list.Goals as goal

pub returns-clause-sums : goal.returns-clause-sums
returns-clause-sums c = sums

pub returns-clause-standing : goal.returns-clause-standing
returns-clause-standing c = stands

pub returns-clause-asked : goal.returns-clause-asked
returns-clause-asked c = asks

pub returns-clause-due : goal.returns-clause-due
returns-clause-due c = due_by_list
