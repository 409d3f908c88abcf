use Rattle.std.proofs.Common.{◌∙◌, sym, arith}
use Rattle.smf_core.proofs.Places.{same_places}
use Rattle.smf_core.proofs.change.places_left.Goals as goal

pub returns-then-all_held : goal.returns-then-all_held
returns-then-all_held c = same_places c.args.places.now c.args.count c.args.moved.now (omega (arith, c.if-moved-places.true)) (sym c.all_held.ensures ∙ c.if-all_held.true)
