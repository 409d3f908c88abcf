use Rattle.std.proofs.Common.{arith, ◌<◌, length, vec_capacity}
use Rattle.meter.specs.Caches.{contents_of}
use Rattle.meter.proofs.Places.{horizon_place, places_horizon, distinct_horizons, horizons_fit}
use Rattle.meter.proofs.Groups.{horizon_is, horizon_other}
use Rattle.meter.proofs.meter.Meter.horizon.Goals as goal

pub set_horizon-requires : goal.set_horizon-requires
set_horizon-requires c none =
    let place = rw (← c.self.view_is) at c.requires.place in
    let room = rw (← c.self.view_is) at c.requires.room in
    let few : length c.self.inside.horizons.items < 16 = horizon_place (contents_of c.self.inside) c.args.group c.self.invariant.horizons c.self.invariant.groups place none in
    let capacity = horizons_fit (vec_capacity c.self.inside.horizons) _ room in
    omega (arith, few, capacity, c.self.inside.horizons.ok.0)

pub invariant_of-self : goal.invariant_of-self
invariant_of-self c =
    let place = rw (← c.self.view_is) at c.requires.place in
    let more = places_horizon (contents_of c.self.inside) (record { group = c.args.group; from = c.args.from; until = c.args.until }) c.self.invariant.groups place in
    let apart = distinct_horizons c.self.inside.horizons.items (record { group = c.args.group; from = c.args.from; until = c.args.until }) c.self.invariant.horizons in
    record {
      kept = c.self.invariant.kept;
      closes = c.self.invariant.closes;
      closed = c.self.invariant.closed;
      horizons = rw c.set_horizon.ensures.value apart;
      groups = rw c.set_horizon.ensures.value more;
    }

pub returns-clause-own : goal.returns-clause-own
returns-clause-own c = rw c.set_horizon.ensures.value (horizon_is c.self.inside.horizons.items (record { group = c.args.group; from = c.args.from; until = c.args.until }))

pub returns-clause-others : goal.returns-clause-others
returns-clause-others c other apart =
    rw (c.set_horizon.ensures.value, ← c.self.view_is) (horizon_other c.self.inside.horizons.items (record { group = c.args.group; from = c.args.from; until = c.args.until }) other apart)
