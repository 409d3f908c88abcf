use Rattle.std.proofs.Common.{◌≡◌, drop, fold}
use Rattle.smf_model.specs.Traffic.{with_asked}
use Rattle.smf_model.specs.Machine.{entries_of}
use Rattle.smf_core.proofs.step.asked_entries.Given as goal

abbrev pub invariant-loop-group : goal.invariant-loop-group
invariant-loop-group l = fold (λ entries group. with_asked group entries) l.entries.items (drop l.group-index l.groups) ≡ entries_of l.groups
