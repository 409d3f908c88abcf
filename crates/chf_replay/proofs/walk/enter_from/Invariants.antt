use Rattle.std.proofs.Common.{◌+◌, take}
use Rattle.chf_replay.specs.Entries.{IsAfter}
use Rattle.chf_replay.proofs.walk.enter_from.Given as goal

abbrev pub invariant-loop-entry : goal.invariant-loop-entry
invariant-loop-entry l = IsAfter l.chf.state (take (l.start + l.entry-index) l.entries)
