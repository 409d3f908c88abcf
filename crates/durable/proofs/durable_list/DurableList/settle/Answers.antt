use Rattle.durable.proofs.durable_list.DurableList.settle.Goals as goal

pub returns-in-Ok-clause-no_journal : goal.returns-in-Ok-clause-no_journal
returns-in-Ok-clause-no_journal g c = λ e at b closed told has none. c.in-Ok.ensures.no_journal e at b told has none
