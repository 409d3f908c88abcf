use Rattle.std.proofs.Common.{rules}
use Rattle.serving.proofs.turns.refuse.Goals as goal

pub returns-clause-refused : goal.returns-clause-refused
returns-clause-refused g c = (search rules, (c.write.result, search rules))
