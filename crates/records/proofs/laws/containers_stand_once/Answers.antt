use Rattle.records.proofs.Once.{stand_once}
use Rattle.records.proofs.laws.containers_stand_once.Goals as goal

pub returns : goal.returns
returns c = stand_once
