use Rattle.std.proofs.Common.{◌≡◌, ◌++◌, ℕ, nat_eq, drop, take}
use Rattle.std.specs.HashSet.{contains}
use Rattle.chf_core.specs.Effect.{asks_of, asks_after, mentions}
use Rattle.chf_core.proofs.asks.asks_of.Given as goal

abbrev pub invariant-loop-entry : goal.invariant-loop-entry
invariant-loop-entry l = record {
  seen : (g : ℕ) → contains nat_eq l.mentioned g ≡ mentions (take l.entry-index l.usage) g;
  rest : l.asks.items ++ asks_after (take l.entry-index l.usage) (drop l.entry-index l.usage) ≡ asks_of l.usage;
}
