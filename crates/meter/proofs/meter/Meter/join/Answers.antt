use Rattle.std.proofs.Common.{length-set}
use Rattle.meter.specs.Caches.{contents_of}
use Rattle.meter.proofs.Sound.{groups_joined}
use Rattle.meter.proofs.Earlier.{closed_joined}
use Rattle.meter.proofs.meter.Meter.join.Goals as goal

pub invariant_of-self : goal.invariant_of-self
invariant_of-self c =
    let s = contents_of c.self.inside in
    let last = rw (← c.self.view_is) at c.requires.last in
    let same = groups_joined s c.args.report.now c.args.container.now c.self.invariant.kept.numbered last in
    record {
      kept = c.grow.ensures.kept;
      closes = rw c.grow.ensures.joined (rw length-set c.self.invariant.closes);
      closed = rw c.grow.ensures.joined (closed_joined s c.args.report.now c.args.container.now c.self.invariant.kept.numbered last c.self.invariant.closed);
      horizons = c.self.invariant.horizons;
      groups = rw c.grow.ensures.joined (rw same c.self.invariant.groups);
    }
