use Rattle.std.proofs.Common.{◌∷◌, ◌++◌, []}
use Rattle.durable.proofs.Holding.{begin_where_ok, stand}
use Rattle.durable.proofs.durable_list.enter.Goals as goal

pub returns-clause-grows : goal.returns-clause-grows
returns-clause-grows g c = λ list tied. c.entries_go_behind.ensures.entry c.args.disk.now c.append.new.disk c.args.journal.now list c.args.entry.now tied c.append.ensures.kept c.append.ensures.epoch
    (c.append.ensures.every_exit (stand _ _ c.requires.tied.0 c.requires.tied.2))

pub returns-clause-begins : goal.returns-clause-begins
returns-clause-begins g c = λ list begins. c.extensions_compose.ensures.beginnings c.args.disk.now c.append.new.disk (c.args.entry.now ∷ []) 0 list (c.append.ensures.every_exit (stand _ _ list begins)) begins

pub returns-clause-added : goal.returns-clause-added
returns-clause-added g c = λ list tied. begin_where_ok c.append.result _ _ (list ++ c.args.entry.now ∷ []) (c.append.ensures.firm list tied)
