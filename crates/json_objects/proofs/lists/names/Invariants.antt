use Rattle.std.proofs.Common.{◌≡◌, drop}
use Rattle.json_objects.specs.Fields.{name}
use Rattle.json_objects.proofs.Walk.{then_more, each_of}
use Rattle.json_objects.proofs.lists.names.Given as goal

abbrev pub invariant-loop-item : goal.invariant-loop-item
invariant-loop-item l = each_of name l.item-items ≡ then_more l.found.items (each_of name (drop l.item-index l.item-items))
