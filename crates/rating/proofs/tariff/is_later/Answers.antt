use Rattle.std.proofs.Common.{sym}
use Rattle.rating.proofs.Hours.{later_by_last}
use Rattle.rating.proofs.tariff.is_later.Goals as goal

pub returns-in-Some : goal.returns-in-Some
returns-in-Some c = sym (later_by_last c.args.periods.now c.in-Some.last.now c.args.hour c.requires (sym c.in-Some.ensures.value))
