use Rattle.std.proofs.Common.{◌≡◌, ◌∙◌, ◌-◌, ◌+◌, true, ap, arith, drop, rules, take}
use Rattle.edge.specs.Connections.{has_failed}
use Rattle.wire.specs.Buffers.{Buffered}
use Rattle.wire.proofs.Taking.{none_came, took_count, took_failed}
use Rattle.wire.proofs.Views.{between}
use Rattle.wire.proofs.buffer.Buffer.read_on.Goals as goal

pub returns-in_err-count-clause-took : goal.returns-in_err-count-clause-took
returns-in_err-count-clause-took g c =
    let i = c.self.inside in
    let failed : has_failed c.from_residual.result ≡ true = search rules in
    took_failed (has_failed c.from_residual.result) c.args.self.now.held i.bytes.items c.read_at.new.bytes.items i.from i.to _ _ _ _ failed (ap (λ (b : Buffered). b.held) c.self.view_is) (omega arith) c.in_err-count.ensures.before
    c.in_err-count.ensures.came c.in_err-count.ensures.connections

pub returns-in_err-count-clause-same : goal.returns-in_err-count-clause-same
returns-in_err-count-clause-same g c not_so =
    let i = c.self.inside in
    between i.bytes.items c.read_at.new.bytes.items i.from i.to (omega arith) c.in_err-count.ensures.before ∙ ap (λ (b : Buffered). b.held) c.self.view_is

pub returns-clause-took : goal.returns-clause-took
returns-clause-took g c =
    let i = c.self.inside in
    took_count c.args.self.now.held i.bytes.items c.read_at.new.bytes.items i.from i.to c.in_ok-count.count _ _ _ _ (ap (λ (b : Buffered). b.held) c.self.view_is) (omega arith) (omega (arith, c.in_ok-count.ensures.bound))
    c.in_ok-count.ensures.before c.in_ok-count.ensures.came.0 c.in_ok-count.ensures.connections

pub returns-clause-same : goal.returns-clause-same
returns-clause-same g c not_so =
    let i = c.self.inside in
    let none : i.to + c.in_ok-count.count - i.from ≡ i.to - i.from = omega (arith, none_came c.in_ok-count.count not_so) in
    ap (λ n. take n (drop i.from c.read_at.new.bytes.items)) none ∙ between i.bytes.items c.read_at.new.bytes.items i.from i.to (omega arith) c.in_ok-count.ensures.before ∙ ap (λ (b : Buffered). b.held) c.self.view_is
