use Rattle.std.proofs.Common.{◌≡◌, ◌++◌, map, take, drop}
use Rattle.smf_model.specs.Traffic.{count_entry}
use Rattle.smf_core.proofs.counting.count_each.Given as goal

abbrev pub invariant-loop-entry : goal.invariant-loop-entry
invariant-loop-entry l = l.groups ≡ map (count_entry l.report) (take l.entry-index l.fn.groups) ++ drop l.entry-index l.fn.groups
