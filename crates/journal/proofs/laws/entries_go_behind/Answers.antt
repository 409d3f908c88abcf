use Rattle.journal.proofs.Behind.{entry_behind, nothing_behind}
use Rattle.journal.proofs.laws.entries_go_behind.Goals as goal

pub returns-clause-nothing : goal.returns-clause-nothing
returns-clause-nothing g c = λ before after. nothing_behind _ _ _ _

pub returns-clause-entry : goal.returns-clause-entry
returns-clause-entry g c = λ before after journal list payload. entry_behind journal _ _ _ _ _ list payload
