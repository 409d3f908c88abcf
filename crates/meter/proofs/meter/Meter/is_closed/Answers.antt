use Rattle.std.proofs.Common.{arith, ap, sym, ◌∙◌, ◌<◌, ◌-◌, length}
use Rattle.meter.specs.Caches.{contents_of}
use Rattle.meter.specs.Meter.{closed_of}
use Rattle.meter.proofs.Closes.{closed_zero, closed_past, closed_not, closed_some}
use Rattle.meter.proofs.meter.Meter.is_closed.Goals as goal

pub returns-then-lsn-eq0 : goal.returns-then-lsn-eq0
returns-then-lsn-eq0 c =
    rw (← c.self.view_is) (sym (ap (closed_of (contents_of c.self.inside)) c.if-lsn-eq0.true ∙ closed_zero (contents_of c.self.inside) c.self.invariant.kept.numbered))

pub returns-then-place-opened : goal.returns-then-place-opened
returns-then-place-opened c =
    let s = contents_of c.self.inside in
    rw (← c.self.view_is) (sym (closed_past s c.args.lsn (omega arith) c.self.invariant.kept.numbered (omega (arith, c.if-place-opened.true, c.len-opened.ensures, c.self.inside.containers.ok.0))))

pub returns-in_err-close : goal.returns-in_err-close
returns-in_err-close c =
    let s = contents_of c.self.inside in
    let within : c.args.lsn - 1 < length s.closes = omega (arith, c.if-place-opened.false, c.len-opened.ensures, c.self.inside.containers.ok.0, c.self.invariant.closes) in
    c.from_residual.ensures ∙ rw (← c.self.view_is) (sym (closed_not s c.args.lsn c.index.result.now (omega arith) c.self.invariant.kept.numbered within c.index.ensures c.in_err-close.was))

pub returns : goal.returns
returns c =
    let s = contents_of c.self.inside in
    let inside : c.args.lsn - 1 < length s.containers = omega (arith, c.if-place-opened.false, c.len-opened.ensures, c.self.inside.containers.ok.0) in
    let within : c.args.lsn - 1 < length s.closes = omega (arith, inside, c.self.invariant.closes) in
    rw (← c.self.view_is) (sym (closed_some s c.args.lsn c.index-2.result.now c.index.result.now c.in_ok-close.close (omega arith) c.self.invariant.kept.numbered inside within c.index-2.ensures c.index.ensures c.in_ok-close.was))
