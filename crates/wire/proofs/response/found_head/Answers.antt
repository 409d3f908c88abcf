use Rattle.wire.proofs.ResponseFound.{response_found}
use Rattle.wire.proofs.response.found_head.Goals as goal

pub returns : goal.returns
returns c = response_found c.args.bytes.now c.args.fields.now c.args.head.now c.read_body_length.result c.find_location.result c.requires.within c.requires.read c.read_body_length.ensures c.find_location.ensures.text c.find_location.ensures.first
