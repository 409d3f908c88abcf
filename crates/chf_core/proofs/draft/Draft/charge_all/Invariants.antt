use Rattle.std.proofs.Common.{◌≡◌, ◌++◌, drop}
use Rattle.chf_core.specs.CommandMoves.{charges}
use Rattle.chf_core.specs.Drafts.{Holds}
use Rattle.chf_core.proofs.draft.Draft.charge_all.Given as goal

abbrev pub invariant-loop-entry : goal.invariant-loop-entry
invariant-loop-entry l = record {
  moves : l.self.moves ++ charges l.tariffs l.t (drop l.entry-index l.usage)
      ≡ l.fn.self.moves ++ charges l.tariffs l.t l.usage;
  holds : Holds l.fn.self l.accounts.state l.t → Holds l.self l.accounts.state l.t;
}
