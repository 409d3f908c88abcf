use Rattle.chf_core.proofs.Suits.{suits}
use Rattle.chf_core.proofs.laws.verdicts_suit_commands.Goals as goal

pub returns : goal.returns
returns c = suits
