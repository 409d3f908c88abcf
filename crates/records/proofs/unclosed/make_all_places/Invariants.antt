use Rattle.std.proofs.Common.{◌≡◌, ◌<◌, ℕ, vec_len, vec_capacity, get_or}
use Rattle.units.specs.declared.request.UnitUsage.{UnitUsage}
use Rattle.records.specs.Groups.{usage_seen, HasPlaces}
use Rattle.records.proofs.unclosed.make_all_places.Given as goal

abbrev pub invariant-loop-entry : goal.invariant-loop-entry
invariant-loop-entry l = record {
  kept : usage_seen l.groups.items ≡ usage_seen l.initial.groups.items;
  len : vec_len l.groups ≡ vec_len l.initial.groups;
  capacity : vec_capacity l.groups ≡ vec_capacity l.initial.groups;
  places : (k : ℕ) (d : UnitUsage) → k < l.entry-index → HasPlaces l.groups.items (get_or l.used k d);
}
