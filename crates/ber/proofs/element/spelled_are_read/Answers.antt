use Rattle.ber.proofs.Front.{element_again}
use Rattle.ber.proofs.element.spelled_are_read.Goals as goal

pub returns : goal.returns
returns g c = element_again g.G.Grammar.rules c.args.grammar
