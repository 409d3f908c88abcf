use Rattle.std.proofs.Common.{◌≡◌, ℕ, nat_eq, List, [], drop}
use Rattle.std.specs.List.{list_any}
use Rattle.std.specs.HashSet.{contains}
use Rattle.smf_rows.specs.EventRow.{differ_after}
use Rattle.smf_rows.proofs.new_groups.differ.Given as goal

abbrev pub invariant-loop-group : goal.invariant-loop-group
invariant-loop-group l =
    (before : List ℕ) × ((g : ℕ) → contains nat_eq l.seen g ≡ list_any (nat_eq g) before) × (differ_after before (drop l.group-index l.groups) ≡ differ_after [] l.groups)
