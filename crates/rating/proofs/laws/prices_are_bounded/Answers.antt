use Rattle.rating.proofs.Reserves.{price_bounded}
use Rattle.rating.proofs.laws.prices_are_bounded.Goals as goal

pub returns : goal.returns
returns c = price_bounded
