use Rattle.edge.proofs.Put.{put_is}
use Rattle.edge.proofs.disk_store.put.Goals as goal

pub returns : goal.returns
returns c = put_is c.args.buffer.now c.fill_gap.new.buffer c.splice.new.buffer c.args.len c.args.at c.args.bytes.now c.requires.len c.requires.room c.fill_gap.ensures c.fill_gap.auto.buffer c.splice.ensures
