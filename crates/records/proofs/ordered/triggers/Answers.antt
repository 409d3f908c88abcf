use Rattle.std.proofs.Common.{ℕ, List, true, refl, sym, subst}
use Rattle.records.specs.declared.place.Place.TheVariants as places
use Rattle.records.specs.Reading.{with_trigger}
use Rattle.records.specs.Ordered.{Makes}
use Rattle.records.proofs.Ascending.{nothing_left, trigger_made, triggers_made}
use Rattle.records.proofs.ordered.triggers.Goals as goal

pub loop-rest-init : goal.loop-rest-init
loop-rest-init c = λ ts made. subst (λ (z : List (List ℕ)). Makes 10 (places.Triggers true) with_trigger z ts c.args.bytes.now) c.new-all.ensures made

pub loop-rest-preserved : goal.loop-rest-preserved
loop-rest-preserved c = λ ts made.
    c.loop-rest.invariant ts (trigger_made c.loop-rest.all ts c.in_ok-kind.kind c.loop-rest.rest.now c.in_ok-kind.behind.now c.in_ok-kind.ensures.has
    (subst (λ (z : List (List ℕ)). Makes 10 (places.Triggers true) with_trigger z ts c.in_ok-kind.behind.now) c.in-Ok.ensures.ok made))

pub returns : goal.returns
returns c =
    triggers_made c.loop-rest.all c.args.bytes.now (sym c.if-is_empty.ensures)
    (c.loop-rest.invariant c.loop-rest.all (nothing_left 10 (places.Triggers true) with_trigger c.loop-rest.all c.loop-rest.rest.now refl (sym c.loop-rest-test.ensures)))
