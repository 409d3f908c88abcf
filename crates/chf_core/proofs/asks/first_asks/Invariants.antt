use Rattle.std.proofs.Common.{◌≡◌, ℕ, nat_eq, drop}
use Rattle.std.specs.HashMap.{get}
use Rattle.std.specs.Option.{option_or}
use Rattle.chf_core.specs.Effect.{first_ask}
use Rattle.chf_core.proofs.asks.first_asks.Given as goal

abbrev pub invariant-loop-entry : goal.invariant-loop-entry
invariant-loop-entry l =
    (g : ℕ) → option_or (get nat_eq l.asks g) (first_ask g (drop l.entry-index l.usage)) ≡ first_ask g l.usage
