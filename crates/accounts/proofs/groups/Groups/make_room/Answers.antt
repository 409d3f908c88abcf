use Rattle.accounts.proofs.Indexed.{same_chained}
use Rattle.accounts.proofs.groups.Groups.make_room.Goals as goal

pub returns-in-Ok-Ok-clause-chained : goal.returns-in-Ok-Ok-clause-chained
returns-in-Ok-Ok-clause-chained c = same_chained c.args.self.now (record { first = c.reserve-first.new.self; next = c.reserve-next.new.self }) c.requires.chained c.reserve-first.ensures.entries.2 c.reserve-next.ensures.entries.2

pub returns-in_default-clause-chained : goal.returns-in_default-clause-chained
returns-in_default-clause-chained c = same_chained c.args.self.now (record { first = c.reserve-first.new.self; next = c.reserve-next.new.self }) c.requires.chained c.reserve-first.ensures.entries.2 c.reserve-next.ensures.entries.2

pub returns-in_default-2-clause-chained : goal.returns-in_default-2-clause-chained
returns-in_default-2-clause-chained c = same_chained c.args.self.now (record { first = c.reserve-first.new.self; next = c.reserve-next.new.self }) c.requires.chained c.reserve-first.ensures.entries.2 c.reserve-next.ensures.entries.2
