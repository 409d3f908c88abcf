use Rattle.std.proofs.Common.{sym}
use Rattle.counters.proofs.Limits.{above_by_last}
use Rattle.counters.proofs.search.is_above.Goals as goal

pub returns-in-Some : goal.returns-in-Some
returns-in-Some c = sym (above_by_last c.args.limits.now c.in-Some.last.now c.args.amount c.requires (sym c.in-Some.ensures.value))
