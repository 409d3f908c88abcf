use Rattle.std.proofs.Common.{◌≡◌, [], drop}
use Rattle.records.specs.Usage.{with_usage}
use Rattle.records.proofs.grouping.grouped.Given as goal

abbrev pub invariant-loop-entry : goal.invariant-loop-entry
invariant-loop-entry l = with_usage l.entries.items (drop l.entry-index l.usage) ≡ with_usage [] l.usage
