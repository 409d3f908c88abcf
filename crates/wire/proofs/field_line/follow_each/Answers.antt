use Rattle.std.proofs.Common.{◌+◌, ◌-◌, ◌<◌, ◌∙◌, length, drop, arith, length-drop, length-take}
use Rattle.std.proofs.lemmas.List.{get_or-drop, get_or-take}
use Rattle.wire.proofs.Following.{follow_step}
use Rattle.wire.proofs.field_line.follow_each.Goals as goal

pub loop-byte-preserved : goal.loop-byte-preserved
loop-byte-preserved c =
    let bytes = c.args.bytes.now in
    let i = c.loop-byte.byte-index in
    let here : c.args.had + i < length bytes = omega (arith, c.loop-byte-test.true, c.requires.within, length-take (length bytes - c.args.had) (drop c.args.had bytes), length-drop c.args.had bytes) in
    follow_step bytes c.args.had i _ c.loop-byte.line c.next_line-line.result here (get_or-take (length bytes - c.args.had) (drop c.args.had bytes) i 0 (omega (arith, here, c.requires.within)) ∙ get_or-drop c.args.had bytes i 0) c.loop-byte.invariant c.next_line-line.ensures
