use Rattle.std.proofs.Common.{◌≡◌, map, take}
use Rattle.edge.specs.declared.memory_streams.Coming.{Coming}
use Rattle.edge.proofs.memory_streams.places_for.Given as goal

abbrev pub invariant-loop-bytes : goal.invariant-loop-bytes
invariant-loop-bytes l = map (λ (c : Coming). c.bytes) l.places.items ≡ take l.bytes-index l.bytes-items
