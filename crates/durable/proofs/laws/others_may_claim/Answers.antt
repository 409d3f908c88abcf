use Rattle.durable.proofs.Others.{others, rises}
use Rattle.durable.proofs.laws.others_may_claim.Goals as goal

pub returns : goal.returns
returns g c = λ before after held list is same kept tells grown. others held _ _ _ _ _ _ list is same kept (rises _ _ tells grown) (g.met.D.Disk.tells_with_epoch after)
