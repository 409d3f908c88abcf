use Rattle.std.proofs.Common.{◌≡◌, ◌<◌, ◌==◌, ◌||◌, ℕ, length, false, [], get_or, take}
use Rattle.counters.specs.Names.{is_among}
use Rattle.counters.proofs.watching.watched.Given as goal

abbrev pub invariant-loop-name : goal.invariant-loop-name
invariant-loop-name l = record {
  size : length l.flags ≡ 100;
  marks : (k : ℕ) → k < length l.names → get_or l.flags k false ≡ ((length l.named == 0) || is_among (get_or l.names k []) (take l.name-index l.named));
}
