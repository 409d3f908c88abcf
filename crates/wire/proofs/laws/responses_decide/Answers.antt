use Rattle.wire.specs.Responses.{IsHopelessResponse, IsResponseHeadAt}
use Rattle.wire.proofs.ResponseHeads.{response_heads}
use Rattle.wire.proofs.Stay.{decides}
use Rattle.wire.proofs.laws.responses_decide.Goals as goal

pub returns : goal.returns
returns c = decides IsResponseHeadAt IsHopelessResponse response_heads
