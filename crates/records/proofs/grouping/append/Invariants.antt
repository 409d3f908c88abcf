use Rattle.std.proofs.Common.{◌≡◌, ◌++◌, take}
use Rattle.records.proofs.grouping.append.Given as goal

abbrev pub invariant-loop-container : goal.invariant-loop-container
invariant-loop-container l = l.list ≡ l.fn.list ++ take l.container-index l.more
