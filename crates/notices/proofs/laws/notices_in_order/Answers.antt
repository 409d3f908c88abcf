use Rattle.notices.proofs.Leaving.{in_order}
use Rattle.notices.proofs.Numbering.{numbered}
use Rattle.notices.proofs.laws.notices_in_order.Goals as goal

pub returns-clause-numbered : goal.returns-clause-numbered
returns-clause-numbered c = numbered

pub returns-clause-leave : goal.returns-clause-leave
returns-clause-leave c = in_order
