use Rattle.std.proofs.Common.{rules}
use Rattle.std.proofs.lemmas.Slice.{overwrites}
use Rattle.ber.proofs.placing.put_octets.Goals as goal

pub returns : goal.returns
returns c = (search (rules, overwrites), search rules, search (rules, overwrites), search (rules, overwrites))
