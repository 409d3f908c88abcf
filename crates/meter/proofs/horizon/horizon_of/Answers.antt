use Rattle.std.proofs.Common.{sym, ◌∙◌}
use Rattle.std.specs.Prelude.{◌==◌}
use Rattle.meter.proofs.Finds.{find_read, find_none}
use Rattle.meter.proofs.horizon.horizon_of.Goals as goal

pub returns-in_err-at : goal.returns-in_err-at
returns-in_err-at c = c.from_residual.ensures ∙ sym (find_none (λ h. h.group == c.args.group) c.args.horizons.now (sym c.place_of.ensures.value ∙ c.in_err-at.was))

pub returns : goal.returns
returns c = sym (find_read (λ h. h.group == c.args.group) c.args.horizons.now c.in_ok-at.at c.index-horizons-at.result (sym c.place_of.ensures.value ∙ c.in_ok-at.was) c.index-horizons-at.is)
