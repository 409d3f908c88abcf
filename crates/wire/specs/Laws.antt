-- The laws of what bytes begin with, as public calls state them (RFC 9112; this product's own).
use Rattle.wire.specs.Heads.{Decides}
use Rattle.wire.specs.Requests.{RequestLooks}
use Rattle.wire.specs.Responses.{ResponseLooks}

-- requests: bytes begin with one thing at most, and what decides decides whatever follows
abbrev pub RequestsDecide : Type 0
RequestsDecide = Decides RequestLooks

-- responses likewise
abbrev pub ResponsesDecide : Type 0
ResponsesDecide = Decides ResponseLooks
