use Rattle.std.proofs.Common.{◌<◌, length, arith, ◌∙◌}
use Rattle.edge.proofs.Fills.{filled_turn}
use Rattle.edge.proofs.disk_store.fill_spans.Goals as goal

pub loop-span-preserved : goal.loop-span-preserved
loop-span-preserved c = λ k here.
    let before : k < length c.loop-span.bytes = omega (arith, here, c.fill_span.auto.bytes) in
    c.fill_span.ensures k here ∙ filled_turn c.args.fill.now c.args.spans.now c.loop-span.span-index k _ _ _ c.loop-span-test.true (c.loop-span.invariant k before)
