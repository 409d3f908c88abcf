use Rattle.wire.specs.Requests.{IsHopelessRequest, IsRequestHeadAt}
use Rattle.wire.proofs.RequestHeads.{request_heads}
use Rattle.wire.proofs.Stay.{decides}
use Rattle.wire.proofs.laws.requests_decide.Goals as goal

pub returns : goal.returns
returns c = decides IsRequestHeadAt IsHopelessRequest request_heads
