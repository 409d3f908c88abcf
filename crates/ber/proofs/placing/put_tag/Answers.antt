use Rattle.std.proofs.Common.{arith}
use Rattle.std.proofs.lemmas.Grind.{common_steps}
use Rattle.ber.proofs.Putting.{put_twice}
use Rattle.ber.proofs.placing.put_tag.Goals as goal

pub returns : goal.returns
returns c = (grind (arith, common_steps), grind (arith, common_steps), grind (arith, common_steps), (put_twice _ _ _ _ _ _ _ _ c.put_octet-behind.ensures c.put_high.ensures).3)
