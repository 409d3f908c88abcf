use Rattle.std.proofs.Common.{◌≡◌, ◌++◌, length, option_map}
use Rattle.row_fields.specs.Fields.{groups_in}
use Rattle.rows.specs.Pieces.{pieces}
use Rattle.row_fields.proofs.group_lists.groups_in.Given as goal

abbrev pub invariant-loop-group : goal.invariant-loop-group
invariant-loop-group l = groups_in (pieces 32 l.fn.field) ≡ option_map (λ more. l.groups ++ more) (groups_in (pieces 32 l.rest))

abbrev pub decreases-loop-group : goal.decreases-loop-group
decreases-loop-group l = length l.rest
