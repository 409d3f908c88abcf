use Rattle.std.proofs.Common.{◌≡◌, drop}
use Rattle.std.specs.List.{list_any}
use Rattle.units.specs.Words.{type_named}
use Rattle.records.specs.Sums.{is_change_type, is_change}
use Rattle.records.proofs.sums.is_change.Given as goal

abbrev pub invariant-loop-name : goal.invariant-loop-name
invariant-loop-name l = list_any (λ t. is_change_type (type_named t)) (drop l.name-index l.container.triggers) ≡ is_change l.container
