use Rattle.std.proofs.Common.{◌≤◌, ◌≢◌, ℕ, is_some}
use Rattle.std.specs.HashMap.{get, spare, hash_map_len}
use Rattle.accounts.specs.Reservations.{key_eq}
use Rattle.accounts.specs.Chains.{IsChained}
use Rattle.accounts.specs.Indexes.{AreLinked, LatestIsThere}
use Rattle.accounts.proofs.reservations.settle_groups.Given as goal

abbrev pub invariant-loop-group : goal.invariant-loop-group
invariant-loop-group l = record {
  chained : IsChained l.groups;
  linked : AreLinked (λ k. is_some (get key_eq l.table k)) l.groups;
  others : (t : ℕ) → t ≢ l.session → LatestIsThere (λ k. is_some (get key_eq l.table k)) l.groups t;
  first : spare l.fn.groups.first ≤ spare l.groups.first;
  next : spare l.fn.groups.next ≤ spare l.groups.next;
}

abbrev pub decreases-loop-group : goal.decreases-loop-group
decreases-loop-group l = hash_map_len l.groups.next
