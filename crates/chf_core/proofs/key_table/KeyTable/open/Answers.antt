use Rattle.chf_core.proofs.Consumers.{reference_entered, name_known}
use Rattle.chf_core.proofs.Results.{from_ok}
use Rattle.chf_core.proofs.key_table.KeyTable.open.Goals as goal

pub returns-clause-references : goal.returns-clause-references
returns-clause-references c =
    let u = from_ok c.insert.result _ (c.insert.ensures.succeeds c.requires.room) c.insert.ensures.updates in
    reference_entered c.args.self.now.consumers.list c.args.self.now.references c.insert.new.self c.args.consumer.now c.args.at c.args.reference c.requires.number u.0

pub returns-clause-known : goal.returns-clause-known
returns-clause-known c =
    let u = from_ok c.insert.result _ (c.insert.ensures.succeeds c.requires.room) c.insert.ensures.updates in
    record { places = c.requires.known.places; references = name_known c.args.self.now.consumers.list c.args.self.now.references c.insert.new.self c.args.consumer.now c.args.at c.args.reference c.requires.number u.0 c.requires.known.references }
