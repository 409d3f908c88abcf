use Rattle.durable.proofs.durable_list.DurableList.open.Goals as goal

pub returns-clause-grows : goal.returns-clause-grows
returns-clause-grows g c = λ stands. c.entries_go_behind.ensures.nothing c.args.disk.now c.start.new.disk (c.start.ensures.every_exit stands)
