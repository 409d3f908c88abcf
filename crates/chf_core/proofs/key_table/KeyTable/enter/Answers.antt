use Rattle.chf_core.proofs.Consumers.{place_entered, key_known}
use Rattle.chf_core.proofs.Results.{from_ok}
use Rattle.chf_core.proofs.key_table.KeyTable.enter.Goals as goal

pub returns-clause-places : goal.returns-clause-places
returns-clause-places c =
    let u = from_ok c.insert.result _ (c.insert.ensures.succeeds c.requires.room) c.insert.ensures.updates in
    place_entered c.args.self.now.consumers.list c.args.self.now.places c.insert.new.self c.args.consumer.now c.args.at c.args.place c.requires.number u.0

pub returns-clause-known : goal.returns-clause-known
returns-clause-known c =
    let u = from_ok c.insert.result _ (c.insert.ensures.succeeds c.requires.room) c.insert.ensures.updates in
    record { places = key_known c.args.self.now.consumers.list c.args.self.now.places c.insert.new.self c.args.consumer.now c.args.at c.args.place c.requires.number u.0 c.requires.known.places; references = c.requires.known.references }
