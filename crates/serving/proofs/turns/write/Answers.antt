use Rattle.serving.proofs.Writing.{written}
use Rattle.serving.proofs.turns.write.Goals as goal

pub returns-clause-written : goal.returns-clause-written
returns-clause-written g c = written c.args.bytes.now c.write_all.result _ _ _ _ c.write_all.ensures.part c.write_all.ensures.connections
