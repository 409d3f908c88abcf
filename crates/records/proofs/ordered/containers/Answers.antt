use Rattle.std.proofs.Common.{List, refl, sym, subst}
use Rattle.units.specs.declared.request.Used.{Used}
use Rattle.records.specs.declared.place.Place.TheVariants as places
use Rattle.records.specs.Reading.{with_container}
use Rattle.records.specs.Ordered.{Makes}
use Rattle.records.proofs.Ascending.{nothing_left, used_made}
use Rattle.records.proofs.ordered.containers.Goals as goal

pub loop-rest-init : goal.loop-rest-init
loop-rest-init c = λ us made. subst (λ (z : List Used). Makes 12 places.Containers (with_container c.args.group) (z, 0) (us, 0) c.args.bytes.now) c.new-all.ensures made

pub loop-rest-preserved : goal.loop-rest-preserved
loop-rest-preserved c = λ us made.
    c.loop-rest.invariant us (used_made c.args.group c.loop-rest.all us c.in_ok-used.used c.loop-rest.rest.now c.in_ok-contents.contents.now c.in_ok-contents.behind.now c.in_ok-contents.ensures.found c.in_ok-used.ensures
    (subst (λ (z : List Used). Makes 12 places.Containers (with_container c.args.group) (z, 0) (us, 0) c.in_ok-contents.behind.now) c.in-Ok.ensures.ok made))

pub returns : goal.returns
returns c = c.loop-rest.invariant c.loop-rest.all (nothing_left 12 places.Containers (with_container c.args.group) (c.loop-rest.all, 0) c.loop-rest.rest.now refl (sym c.loop-rest-test.ensures))
