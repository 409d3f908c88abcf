use Rattle.rating.proofs.Reserves.{reserve_pays, grant_pays, grant_covered}
use Rattle.rating.proofs.laws.reserves_suffice.Goals as goal

pub returns-clause-pay : goal.returns-clause-pay
returns-clause-pay c = reserve_pays

pub returns-clause-grants : goal.returns-clause-grants
returns-clause-grants c = grant_pays

pub returns-clause-covered : goal.returns-clause-covered
returns-clause-covered c = grant_covered
