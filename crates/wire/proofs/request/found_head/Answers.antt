use Rattle.wire.proofs.RequestFound.{request_found}
use Rattle.wire.proofs.request.found_head.Goals as goal

pub returns : goal.returns
returns c = request_found c.args.bytes.now c.args.fields.now c.args.head.now c.read_body_length.result c.closes.result c.requires.within c.requires.read c.read_body_length.ensures c.closes.ensures
