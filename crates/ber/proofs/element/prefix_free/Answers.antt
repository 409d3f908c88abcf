use Rattle.ber.proofs.Front.{one_spelling}
use Rattle.ber.proofs.element.prefix_free.Goals as goal

pub returns : goal.returns
returns c = one_spelling
