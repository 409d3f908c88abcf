use Rattle.std.proofs.Common.{◌≡◌, drop}
use Rattle.smf_model.specs.Settle.{entry_of}
use Rattle.smf_core.proofs.settle.entry_in.Given as goal

abbrev pub invariant-loop-entry : goal.invariant-loop-entry
invariant-loop-entry l = entry_of l.group (drop l.entry-index l.entries) ≡ entry_of l.group l.entries
