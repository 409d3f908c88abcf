use Rattle.std.proofs.Common.{List, true, refl, sym, subst}
use Rattle.units.specs.declared.request.UnitUsage.{UnitUsage}
use Rattle.records.specs.declared.place.Place.TheVariants as places
use Rattle.records.specs.Reading.{with_unit_usage}
use Rattle.records.specs.Ordered.{Makes}
use Rattle.records.proofs.Ascending.{nothing_left, unit_made, usages_made}
use Rattle.records.proofs.ordered.usages.Goals as goal

pub loop-rest-init : goal.loop-rest-init
loop-rest-init c = λ us made. subst (λ (z : List UnitUsage). Makes 14 (places.Usages true) with_unit_usage (z, 0) (us, 0) c.args.bytes.now) c.new-all.ensures made

pub loop-rest-preserved : goal.loop-rest-preserved
loop-rest-preserved c = λ us made.
    c.loop-rest.invariant us (unit_made c.loop-rest.all us c.in_ok-entry.entry c.loop-rest.rest.now c.in_ok-contents.contents.now c.in_ok-contents.behind.now c.in_ok-contents.ensures.found c.in_ok-entry.ensures
    (subst (λ (z : List UnitUsage). Makes 14 (places.Usages true) with_unit_usage (z, 0) (us, 0) c.in_ok-contents.behind.now) c.in-Ok.ensures.ok made))

pub returns : goal.returns
returns c =
    usages_made c.loop-rest.all c.args.bytes.now (sym c.if-is_empty.ensures)
    (c.loop-rest.invariant c.loop-rest.all (nothing_left 14 (places.Usages true) with_unit_usage (c.loop-rest.all, 0) c.loop-rest.rest.now refl (sym c.loop-rest-test.ensures)))
