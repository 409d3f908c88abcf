use Rattle.std.proofs.Common.{rules}
use Rattle.durable.proofs.Holding.{held_closed}
use Rattle.durable.proofs.durable_list.DurableList.open_again.Goals as goal

pub returns-in-Ok-take-clause-begins : goal.returns-in-Ok-take-clause-begins
returns-in-Ok-take-clause-begins g c = λ list is. c.start_again.ensures.begins list is.begins

pub returns-in-Err-take-clause-begins : goal.returns-in-Err-take-clause-begins
returns-in-Err-take-clause-begins g c = λ list is. c.start_again.ensures.begins list is.begins

pub returns-in-Err-clause-begins : goal.returns-in-Err-clause-begins
returns-in-Err-clause-begins g c = λ list is. c.start_again.ensures.begins list is.begins

pub returns-in-Err-clause-kept : goal.returns-in-Err-clause-kept
returns-in-Err-clause-kept g c = λ list is. held_closed c.args.self.now _ _ _ _ _ _ list is c.requires.closed (c.start_again.ensures.begins list is.begins) c.start_again.ensures.epoch

pub returns-in-Err-take-clause-kept : goal.returns-in-Err-take-clause-kept
returns-in-Err-take-clause-kept g c = λ list is.
    held_closed c.take.new.self (g.D.Disk.content c.args.disk.now) (g.D.Disk.content c.start_again.new.disk) (g.D.Disk.told_epoch c.args.disk.now) (g.D.Disk.told_epoch c.start_again.new.disk)
    (g.D.Disk.is_image c.args.disk.now) (g.D.Disk.is_image c.start_again.new.disk) list (search rules) (search rules) (c.start_again.ensures.begins list is.begins) c.start_again.ensures.epoch

pub returns-in-Err-clause-refused : goal.returns-in-Err-clause-refused
returns-in-Err-clause-refused g c = c.in-Err.ensures.refused c.args.self.now
