-- First replies in the ranges of replies (TS 32.291, 6.1.6.2.1.6 to 6.1.6.2.1.10; the bounds are this product's own).
use Rattle.std.specs.Prelude.{◌-◌, ◌^◌, ◌<◌, List, length}
use Rattle.units.specs.declared.request.Request.{Request}
use Rattle.units.specs.Ranges.{FitsRequest}
use Rattle.units.specs.ReplyRanges.{FitsReply}
use Rattle.chf_core.specs.declared.command.Command.{Command}
use Rattle.chf_core.specs.Money.{first_reply}

-- The first reply to a request in range is in range, after fewer commands than 32 bits count.
abbrev pub FirstRepliesFit : Type 0
FirstRepliesFit =
    (commands : List Command) (q : Request) → length commands < 2 ^ 32 - 1 → FitsRequest q
    → FitsReply (first_reply commands q)
