use Rattle.std.proofs.Common.{[]}
use Rattle.durable.proofs.Holding.{refused}
use Rattle.durable.proofs.durable_list.start_again.Goals as goal

pub returns-clause-begins : goal.returns-clause-begins
returns-clause-begins g c = λ list begins. c.extensions_compose.ensures.beginnings c.args.disk.now c.start.new.disk [] 0 list (c.start.ensures.every_exit c.requires.stands) begins

pub returns-clause-no_journal : goal.returns-clause-no_journal
returns-clause-no_journal g c = λ e at b told has none. c.start.ensures.no_journal e at b told has (c.requires.begun e told) none

pub returns-clause-refused : goal.returns-clause-refused
returns-clause-refused g c = λ held. refused c.start.result held _ _ _ _ c.start.ensures.refused
