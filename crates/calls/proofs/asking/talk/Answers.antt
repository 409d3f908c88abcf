use Rattle.std.proofs.Common.{◌∙◌, ap, sym, Ok, Err}
use Rattle.wire.specs.declared.refusal.WireRefusal.TheVariants.{BadHead, TooLong, Chunked, ReadFault, CutShort, OutOfMemory}
use Rattle.calls.proofs.Answered.{on_ok, shows, none_of_bad, none_of_more, whole}
use Rattle.calls.proofs.asking.talk.Goals as goal

pub returns-in-Ok-clause-answered : goal.returns-in-Ok-clause-answered
returns-in-Ok-clause-answered g c = λ peer given earlier told.
    let x = shows peer given c.args.message.now earlier _ _ _ _ _ _ _ c.args.conn.now _ c.read_response.result (Ok c.in-Ok.response) told (on_ok c.write_all.result c.write_all.ensures.connections (sym c.is_err.ensures.value ∙ c.if-is_err.false)) (g.L.Stream.present _)
    c.read_response.ensures.read c.read_response.ensures.stream c.requires.fresh (g.L.Stream.present _) (c.in-Ok.is) in
    (x.0, x.1, x.2, (x.3, (x.4.1.0, x.4.1.1)))

pub returns-in-Err-BadHead-clause-answered : goal.returns-in-Err-BadHead-clause-answered
returns-in-Err-BadHead-clause-answered g c = λ peer given earlier told.
    let x = shows peer given c.args.message.now earlier _ _ _ _ _ _ _ c.args.conn.now _ c.read_response.result (Err BadHead) told (on_ok c.write_all.result c.write_all.ensures.connections (sym c.is_err.ensures.value ∙ c.if-is_err.false)) (g.L.Stream.present _)
    c.read_response.ensures.read c.read_response.ensures.stream c.requires.fresh (g.L.Stream.present _) (c.in-Err-BadHead.is ∙ ap Err c.in-Err-BadHead.field-0-is) in
    (x.0, x.1, x.2, (x.3, none_of_bad c.responses_decide.ensures _ BadHead x.4.1))

pub returns-in-Err-TooLong-clause-answered : goal.returns-in-Err-TooLong-clause-answered
returns-in-Err-TooLong-clause-answered g c = λ peer given earlier told.
    let x = shows peer given c.args.message.now earlier _ _ _ _ _ _ _ c.args.conn.now _ c.read_response.result (Err (TooLong _)) told (on_ok c.write_all.result c.write_all.ensures.connections (sym c.is_err.ensures.value ∙ c.if-is_err.false)) (g.L.Stream.present _)
    c.read_response.ensures.read c.read_response.ensures.stream c.requires.fresh (g.L.Stream.present _) (c.in-Err-TooLong.is ∙ ap Err c.in-Err-TooLong.field-0-is) in
    (x.0, x.1, x.2, (x.3, none_of_bad c.responses_decide.ensures _ (TooLong _) x.4.1))

pub returns-in-Err-Chunked-clause-answered : goal.returns-in-Err-Chunked-clause-answered
returns-in-Err-Chunked-clause-answered g c = λ peer given earlier told.
    let x = shows peer given c.args.message.now earlier _ _ _ _ _ _ _ c.args.conn.now _ c.read_response.result (Err Chunked) told (on_ok c.write_all.result c.write_all.ensures.connections (sym c.is_err.ensures.value ∙ c.if-is_err.false)) (g.L.Stream.present _)
    c.read_response.ensures.read c.read_response.ensures.stream c.requires.fresh (g.L.Stream.present _) (c.in-Err-Chunked.is ∙ ap Err c.in-Err-Chunked.field-0-is) in
    (x.0, x.1, x.2, (x.3, none_of_bad c.responses_decide.ensures _ Chunked x.4.1))

pub returns-in-Err-CutShort-clause-answered : goal.returns-in-Err-CutShort-clause-answered
returns-in-Err-CutShort-clause-answered g c = λ peer given earlier told.
    let x = shows peer given c.args.message.now earlier _ _ _ _ _ _ _ c.args.conn.now _ c.read_response.result (Err (CutShort _)) told (on_ok c.write_all.result c.write_all.ensures.connections (sym c.is_err.ensures.value ∙ c.if-is_err.false)) (g.L.Stream.present _)
    c.read_response.ensures.read c.read_response.ensures.stream c.requires.fresh (g.L.Stream.present _) (c.in-Err-CutShort.is ∙ ap Err c.in-Err-CutShort.field-0-is) in
    (x.0, x.1, x.2, (x.3, none_of_more c.responses_decide.ensures _ x.4.1.0))

pub returns-in-Err-ReadFault-clause-answered : goal.returns-in-Err-ReadFault-clause-answered
returns-in-Err-ReadFault-clause-answered g c = λ peer given earlier told.
    let x = shows peer given c.args.message.now earlier _ _ _ _ _ _ _ c.args.conn.now _ c.read_response.result (Err ReadFault) told (on_ok c.write_all.result c.write_all.ensures.connections (sym c.is_err.ensures.value ∙ c.if-is_err.false)) (g.L.Stream.present _)
    c.read_response.ensures.read c.read_response.ensures.stream c.requires.fresh (g.L.Stream.present _) (c.in-Err-ReadFault.is ∙ ap Err c.in-Err-ReadFault.field-0-is) in
    (x.0, x.1, x.2, whole x.0.written c.args.message.now x.3)

pub returns-in-Err-OutOfMemory-clause-answered : goal.returns-in-Err-OutOfMemory-clause-answered
returns-in-Err-OutOfMemory-clause-answered g c = λ peer given earlier told.
    let x = shows peer given c.args.message.now earlier _ _ _ _ _ _ _ c.args.conn.now _ c.read_response.result (Err OutOfMemory) told (on_ok c.write_all.result c.write_all.ensures.connections (sym c.is_err.ensures.value ∙ c.if-is_err.false)) (g.L.Stream.present _)
    c.read_response.ensures.read c.read_response.ensures.stream c.requires.fresh (g.L.Stream.present _) (c.in-Err-OutOfMemory.is ∙ ap Err c.in-Err-OutOfMemory.field-0-is) in
    (x.0, x.1, x.2, (x.3, (x.4.1.0.0, (x.4.1.0.1, x.4.1.0.2))))
