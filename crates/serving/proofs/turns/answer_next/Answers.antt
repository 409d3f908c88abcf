use Rattle.std.proofs.Common.{◌∙◌, ap, Ok}
use Rattle.wire.specs.Held.{is_read_fault}
use Rattle.serving.specs.Sides.{Gave, meaning_of}
use Rattle.serving.proofs.Ending.{one_more, reads_as, refused, silence}
use Rattle.serving.proofs.Reached.{one_step}
use Rattle.serving.proofs.turns.answer_next.Goals as goal

pub returns-in-Ok-Some-clause-reached : goal.returns-in-Ok-Some-clause-reached
returns-in-Ok-Some-clause-reached g c = λ link.
    let answered = c.answer.ensures.answered link in
    one_step (meaning_of g.H.Handler.gives g.H.Handler.expires g.H.Handler.notifies g.H.Handler.fence c.args.was) _ (Gave answered.turn.message answered.turn.answer) _ answered.answered

pub returns-in-Ok-Some-clause-talks : goal.returns-in-Ok-Some-clause-talks
returns-in-Ok-Some-clause-talks g c = λ link start turns present others count told talking.
    let is = c.in-Ok-Some.is ∙ ap Ok c.in-Ok-Some.field-0-is in
    one_more (meaning_of g.H.Handler.gives g.H.Handler.expires g.H.Handler.notifies g.H.Handler.fence c.args.was) c.requests_decide.ensures start present others turns _ _ c.args.conn.now _ _ c.read_request.result _ _ _ _ _ _ c.args.count talking told count (ap is_read_fault is)
    c.read_request.ensures.read (reads_as _ _ _ _ _ _ _ _ c.read_request.ensures.read c.requires.fresh is) (c.answer.ensures.answered link)

pub returns-in-Ok-None-clause-talks : goal.returns-in-Ok-None-clause-talks
returns-in-Ok-None-clause-talks g c = λ link start turns present others count told talking.
    let is = c.in-Ok-None.is ∙ ap Ok c.in-Ok-None.field-0-is in
    silence (meaning_of g.H.Handler.gives g.H.Handler.expires g.H.Handler.notifies g.H.Handler.fence c.args.was) c.requests_decide.ensures start present others turns _ c.args.conn.now _ c.read_request.result _ _ _ _ _ talking told (g.N.Stream.present _)
    c.read_request.ensures.read (reads_as _ _ _ _ _ _ _ _ c.read_request.ensures.read c.requires.fresh is)

pub returns-in-Err-clause-talks : goal.returns-in-Err-clause-talks
returns-in-Err-clause-talks g c = λ link start turns present others count told talking.
    refused (meaning_of g.H.Handler.gives g.H.Handler.expires g.H.Handler.notifies g.H.Handler.fence c.args.was) c.requests_decide.ensures start present others turns _ c.args.conn.now _ c.read_request.result _ _ _ _ _ _ c.in-Err.refusal c.refuse.result talking told (g.N.Stream.present _)
    c.read_request.ensures.read c.requires.fresh c.in-Err.is c.refuse.ensures.refused
