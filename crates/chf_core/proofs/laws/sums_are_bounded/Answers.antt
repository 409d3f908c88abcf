use Rattle.chf_core.proofs.Bounded.{sums_are_bounded}
use Rattle.chf_core.proofs.laws.sums_are_bounded.Goals as goal

pub returns : goal.returns
returns c = sums_are_bounded c.prices_are_bounded.ensures c.money_balances.ensures.balance c.money_balances.ensures.topups
