use Rattle.std.proofs.Common.{sym, ◌∙◌}
use Rattle.meter.proofs.Groups.{horizon_set, horizon_pushed, no_horizon}
use Rattle.meter.proofs.horizon.set_horizon.Goals as goal

pub push_reserved-requires : goal.push_reserved-requires
push_reserved-requires c =
    let at = rw c.deref.ensures.value at c.place_of.ensures.value in
    c.requires (no_horizon c.args.horizons.now.items c.args.horizon.group (sym at ∙ c.in-None.is))

pub returns-in-Some-clause-value : goal.returns-in-Some-clause-value
returns-in-Some-clause-value c =
    let at = rw c.deref.ensures.value at c.place_of.ensures.value in
    horizon_set c.args.horizons.now.items c.args.horizon c.in-Some.at (sym at ∙ c.in-Some.is)

pub returns-in-None-clause-value : goal.returns-in-None-clause-value
returns-in-None-clause-value c =
    let at = rw c.deref.ensures.value at c.place_of.ensures.value in
    c.push_reserved.ensures.items ∙ horizon_pushed c.args.horizons.now.items c.args.horizon (sym at ∙ c.in-None.is)
