use Rattle.chf_core.proofs.Consumers.{same_keyed}
use Rattle.chf_core.proofs.key_table.KeyTable.make_room.Goals as goal

pub returns-then-references-clause-same : goal.returns-then-references-clause-same
returns-then-references-clause-same c = same_keyed c.args.self.now _ c.make_room.ensures.same c.reserve.ensures.entries.2 c.reserve-2.ensures.entries.2 c.requires

pub returns-else-consumers-clause-same : goal.returns-else-consumers-clause-same
returns-else-consumers-clause-same c = same_keyed c.args.self.now _ c.make_room.ensures.same c.reserve.ensures.entries.2 c.reserve-2.ensures.entries.2 c.requires
