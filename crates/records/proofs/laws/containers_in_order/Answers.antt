use Rattle.records.proofs.InOrder.{in_order}
use Rattle.records.proofs.laws.containers_in_order.Goals as goal

pub returns : goal.returns
returns c = in_order
