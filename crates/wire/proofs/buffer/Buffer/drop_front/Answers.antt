use Rattle.std.proofs.Common.{◌-◌, ◌∙◌, ap, arith, drop, length}
use Rattle.std.proofs.lemmas.List.{length-take}
use Rattle.wire.specs.Buffers.{Buffered}
use Rattle.wire.proofs.Views.{dropped}
use Rattle.wire.proofs.buffer.Buffer.drop_front.Goals as goal

pub returns : goal.returns
returns c =
    let i = c.self.inside in
    let sized = ap (λ (b : Buffered). length b.held) c.self.view_is in
    dropped i.bytes.items i.from i.to c.args.size (omega (arith, sized, length-take (i.to - i.from) (drop i.from i.bytes.items), c.requires)) ∙ ap (λ (b : Buffered). drop c.args.size b.held) c.self.view_is
