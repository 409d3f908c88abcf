use Rattle.rating.proofs.Costs.{run_price, cut_of_group}
use Rattle.rating.proofs.laws.runs_are_priced_right.Goals as goal

pub returns-clause-runs : goal.returns-clause-runs
returns-clause-runs c = run_price

pub returns-clause-cuts : goal.returns-clause-cuts
returns-clause-cuts c = cut_of_group
