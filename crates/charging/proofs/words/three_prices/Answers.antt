use Rattle.std.proofs.Common.{sym, ◌∙◌}
use Rattle.charging.proofs.Ranges.{number_in_range}
use Rattle.charging.proofs.words.three_prices.Goals as goal

pub returns-clause-range : goal.returns-clause-range
returns-clause-range c = record {
  up = number_in_range _ _ c.as_bytes.result.now (sym c.number.ensures ∙ c.in_ok-number.was);
  down = number_in_range _ _ c.as_bytes-2.result.now (sym c.number-2.ensures ∙ c.in_ok-number-2.was);
  seconds = number_in_range _ _ c.as_bytes-3.result.now (sym c.number-3.ensures ∙ c.in_ok-number-3.was);
}
