use Rattle.chf_core.proofs.Keyed.{kept_keyed}
use Rattle.chf_core.proofs.laws.numbers_are_used_once.Goals as goal

pub returns : goal.returns
returns c = kept_keyed
