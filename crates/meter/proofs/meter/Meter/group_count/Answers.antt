use Rattle.std.proofs.Common.{arith}
use Rattle.meter.specs.Caches.{contents_of}
use Rattle.meter.proofs.Places.{group_number}
use Rattle.meter.proofs.meter.Meter.group_count.Goals as goal

pub returns : goal.returns
returns c =
    let all = group_number (contents_of c.self.inside) c.self.inside.counts.items c.self.invariant.kept.groups c.self.invariant.horizons in
    let one = rw (c.deref.ensures.value, c.deref-2.ensures.value) at c.uncounted.ensures in
    rw (← c.self.view_is) (omega (arith, all, one, c.len.ensures, c.self.inside.counts.ok.0))
