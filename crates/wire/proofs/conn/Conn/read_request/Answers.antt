use Rattle.std.proofs.Common.{◌++◌, subst}
use Rattle.wire.specs.Held.{AnswersStream}
use Rattle.wire.specs.Requests.{IsHopelessRequest, IsRequestHeadAt, RequestLooks}
use Rattle.wire.proofs.Reading.{stream_of}
use Rattle.wire.proofs.RequestHeads.{request_heads}
use Rattle.wire.proofs.Stay.{decides}
use Rattle.wire.proofs.conn.Conn.read_request.Goals as goal

pub returns-in-Ok-clause-stream : goal.returns-in-Ok-clause-stream
returns-in-Ok-clause-stream g c = λ fresh left left_now e f.
    subst (λ r. AnswersStream RequestLooks (c.args.self.now.bytes ++ left) (c.read-result.new.self.bytes ++ left_now) r) c.in-Ok.is
    (stream_of RequestLooks (decides IsRequestHeadAt IsHopelessRequest request_heads) c.args.self.now c.read-result.new.self c.read-result.result _ _ _ _ left left_now c.read-result.ensures.read fresh e f)

pub returns-in-Err-clause-stream : goal.returns-in-Err-clause-stream
returns-in-Err-clause-stream g c = λ fresh left left_now e f.
    subst (λ r. AnswersStream RequestLooks (c.args.self.now.bytes ++ left) (c.read-result.new.self.bytes ++ left_now) r) c.in-Err.is
    (stream_of RequestLooks (decides IsRequestHeadAt IsHopelessRequest request_heads) c.args.self.now c.read-result.new.self c.read-result.result _ _ _ _ left left_now c.read-result.ensures.read fresh e f)
