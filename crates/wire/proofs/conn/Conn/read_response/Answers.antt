use Rattle.wire.specs.Responses.{IsHopelessResponse, IsResponseHeadAt, ResponseLooks}
use Rattle.wire.proofs.Reading.{stream_of}
use Rattle.wire.proofs.ResponseHeads.{response_heads}
use Rattle.wire.proofs.Stay.{decides}
use Rattle.wire.proofs.conn.Conn.read_response.Goals as goal

pub returns-clause-stream : goal.returns-clause-stream
returns-clause-stream g c = λ fresh left left_now e f.
    stream_of ResponseLooks (decides IsResponseHeadAt IsHopelessResponse response_heads) c.args.self.now c.read.new.self c.read.result _ _ _ _ left left_now c.read.ensures.read fresh e f
