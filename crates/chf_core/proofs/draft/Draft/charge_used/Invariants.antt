use Rattle.std.proofs.Common.{◌≡◌, ◌++◌, drop, map as each}
use Rattle.chf_core.specs.CommandMoves.{charge_of}
use Rattle.chf_core.specs.Drafts.{Holds}
use Rattle.chf_core.proofs.draft.Draft.charge_used.Given as goal

abbrev pub invariant-loop-container : goal.invariant-loop-container
invariant-loop-container l = record {
  moves : l.self.moves ++ each (charge_of l.tariffs l.t l.group) (drop l.container-index l.used)
      ≡ l.fn.self.moves ++ each (charge_of l.tariffs l.t l.group) l.used;
  holds : Holds l.fn.self l.accounts.state l.t → Holds l.self l.accounts.state l.t;
}
