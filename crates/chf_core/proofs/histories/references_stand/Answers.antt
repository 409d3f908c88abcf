use Rattle.chf_core.proofs.References.{reference_stands}
use Rattle.chf_core.proofs.histories.references_stand.Goals as goal

pub returns : goal.returns
returns c = reference_stands
