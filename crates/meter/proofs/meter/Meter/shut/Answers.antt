use Rattle.std.proofs.Common.{arith}
use Rattle.meter.specs.Caches.{contents_of}
use Rattle.std.proofs.lemmas.List.{length-set}
use Rattle.meter.proofs.Earlier.{closed_shut, none_after_shut, shut_others}
use Rattle.meter.proofs.Lasts.{last_at, last_within}
use Rattle.meter.proofs.meter.Meter.shut.Goals as goal

pub overflow_sub-container : goal.overflow_sub-container
overflow_sub-container c =
    let last = rw (← c.self.view_is) at c.requires in
    let at = last_at c.args.container.now.group c.self.inside.containers.items c.args.container.now c.self.invariant.kept.numbered last in
    omega (arith, at.number)

pub index_mut-requires : goal.index_mut-requires
index_mut-requires c =
    let last = rw (← c.self.view_is) at c.requires in
    let at = last_at c.args.container.now.group c.self.inside.containers.items c.args.container.now c.self.invariant.kept.numbered last in
    let inside = last_within c.args.container.now.group c.self.inside.containers.items c.args.container.now at in
    omega (arith, inside, c.self.invariant.closes, c.self.inside.closes.ok.0)

pub invariant_of-self : goal.invariant_of-self
invariant_of-self c =
    let s = contents_of c.self.inside in
    let last = rw (← c.self.view_is) at c.requires in
    record {
      kept = c.self.invariant.kept;
      closes = rw length-set c.self.invariant.closes;
      closed = closed_shut s c.args.container.now.group c.args.container.now c.args.trigger c.args.moment c.self.invariant.kept.numbered c.self.invariant.closes last c.self.invariant.closed;
      horizons = c.self.invariant.horizons;
      groups = c.self.invariant.groups;
    }

pub returns-clause-none : goal.returns-clause-none
returns-clause-none c =
    let s = contents_of c.self.inside in
    let last = rw (← c.self.view_is) at c.requires in
    none_after_shut s c.args.container.now.group c.args.container.now c.args.trigger c.args.moment c.self.invariant.kept.numbered c.self.invariant.closes last

pub returns-clause-others : goal.returns-clause-others
returns-clause-others c other apart =
    let s = contents_of c.self.inside in
    let last = rw (← c.self.view_is) at c.requires in
    rw (← c.self.view_is) (shut_others s c.args.container.now.group other c.args.container.now c.args.trigger c.args.moment c.self.invariant.kept.numbered last apart)
