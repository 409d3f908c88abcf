use Rattle.counters.proofs.Shown.{statuses_up, changes_up}
use Rattle.counters.proofs.laws.statuses_ascend.Goals as goal

pub returns-clause-statuses : goal.returns-clause-statuses
returns-clause-statuses c = statuses_up

pub returns-clause-changes : goal.returns-clause-changes
returns-clause-changes c = changes_up
