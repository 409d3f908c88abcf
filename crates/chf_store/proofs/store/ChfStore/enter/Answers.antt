use Rattle.std.proofs.Common.{◌∙◌, ap}
use Rattle.durable.specs.State.{State as Durable}
use Rattle.chf_store.proofs.Together.{adds_none}
use Rattle.chf_store.proofs.store.ChfStore.enter.Goals as goal

pub returns-in-Ok-Kept-clause-grows : goal.returns-in-Ok-Kept-clause-grows
returns-in-Ok-Kept-clause-grows g c = λ commands stored. adds_none c.args.self.now _ _ _ commands c.args.command.now stored

pub returns-in-Ok-Known-clause-grows : goal.returns-in-Ok-Known-clause-grows
returns-in-Ok-Known-clause-grows g c = λ commands stored. adds_none c.args.self.now _ _ _ commands c.args.command.now stored

pub returns-in-Ok-Refused-clause-grows : goal.returns-in-Ok-Refused-clause-grows
returns-in-Ok-Refused-clause-grows g c = λ commands stored. adds_none c.args.self.now _ _ _ commands c.args.command.now stored

pub returns-in-Err-clause-grows : goal.returns-in-Err-clause-grows
returns-in-Err-clause-grows g c = λ commands stored. adds_none c.args.self.now _ _ _ commands c.args.command.now stored

pub returns-in-Ok-clause-fenced : goal.returns-in-Ok-clause-fenced
returns-in-Ok-clause-fenced g c = λ j e is told less fresh. c.in-Ok.ensures.fenced j e (ap (λ (d : Durable). d.journal) c.decide.ensures.same.1 ∙ is) told less
