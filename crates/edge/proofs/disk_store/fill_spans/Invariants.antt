use Rattle.std.proofs.Common.{◌≡◌, ◌<◌, ℕ, length, get_or, take}
use Rattle.edge.specs.Stored.{filled_byte}
use Rattle.edge.proofs.disk_store.fill_spans.Given as goal

abbrev pub invariant-loop-span : goal.invariant-loop-span
invariant-loop-span l = (k : ℕ) → k < length l.bytes → get_or l.bytes k 0 ≡ filled_byte l.fill (take l.span-index l.spans) k (get_or l.initial.bytes k 0)
