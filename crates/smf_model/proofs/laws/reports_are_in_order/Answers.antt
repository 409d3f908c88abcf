use Rattle.smf_model.proofs.Ordered.{order_run}
use Rattle.smf_model.proofs.laws.reports_are_in_order.Goals as goal

pub returns : goal.returns
returns c = order_run
