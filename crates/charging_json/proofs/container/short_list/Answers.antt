use Rattle.std.proofs.Common.{◌∙◌, ap, option_and_then, length, refl}
use Rattle.serde_json.specs.View.{items_view}
use Rattle.charging_json.specs.Usage.{short}
use Rattle.charging_json.proofs.Walk.{is_short, is_long}
use Rattle.charging_json.proofs.container.short_list.Goals as goal

pub returns-then-items-le-MOST_ENTRIES : goal.returns-then-items-le-MOST_ENTRIES
returns-then-items-le-MOST_ENTRIES c = is_short c.as_slice-items.result.now (length c.as_slice-items.result.now) refl c.if-items-le-MOST_ENTRIES.true ∙ ap (λ vs. short (items_view vs)) c.as_slice-items.ensures.value ∙ ap (option_and_then short) c.in_ok-items.ensures

pub returns-else-items-le-MOST_ENTRIES : goal.returns-else-items-le-MOST_ENTRIES
returns-else-items-le-MOST_ENTRIES c = is_long c.as_slice-items.result.now (length c.as_slice-items.result.now) refl c.if-items-le-MOST_ENTRIES.false ∙ ap (λ vs. short (items_view vs)) c.as_slice-items.ensures.value ∙ ap (option_and_then short) c.in_ok-items.ensures
