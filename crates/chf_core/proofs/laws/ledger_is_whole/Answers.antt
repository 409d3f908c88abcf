use Rattle.chf_core.proofs.Lines.{ledger_is_whole}
use Rattle.chf_core.proofs.laws.ledger_is_whole.Goals as goal

pub returns : goal.returns
returns c = ledger_is_whole
