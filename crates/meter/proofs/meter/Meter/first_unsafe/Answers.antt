use Rattle.std.proofs.Common.{sym, ◌∙◌}
use Rattle.meter.specs.Caches.{contents_of}
use Rattle.meter.proofs.Firsts.{first_is}
use Rattle.meter.proofs.meter.Meter.first_unsafe.Goals as goal

pub returns : goal.returns
returns c =
    let known = rw c.deref.ensures.value at c.horizon_of-horizon.ensures in
    let is_open = rw (← c.self.view_is) at (sym c.open_container.ensures ∙ c.in_ok-container.was) in
    let hour = rw known at (sym c.first_unsafe_hour.ensures ∙ c.in_ok-first_unsafe_hour.was) in
    rw (← c.self.view_is) (first_is (contents_of c.self.inside) c.args.group c.in_ok-container.container c.in_ok-first_unsafe_hour.field-0 c.new.result is_open hour c.new.ensures.range c.new.ensures.value)
