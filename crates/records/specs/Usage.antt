-- The containers of a record, by rating group.
use Rattle.std.specs.Prelude.{ℕ, ◌+◌, ◌==◌, List, [], ◌∷◌, ◌++◌, length, flat_map, Option, Some, None, option_map, if◌then◌else◌}
use Rattle.units.specs.declared.request.Used.{Used}
use Rattle.units.specs.declared.request.UnitUsage.{UnitUsage}

-- Containers of a rating group, without a requested unit (TS 32.298, 5.1.5.0, list of multiple unit usage).
abbrev pub unit_usage : ℕ → List Used → UnitUsage
unit_usage group used = record { group = group; ask = None; used = used }

-- The containers of a rating group behind those that a record has of it, or as its last entry (this product's own).
abbrev pub with_group : List UnitUsage → ℕ → List Used → List UnitUsage
with_group [] group used = unit_usage group used ∷ []
with_group (u ∷ us) group used = if u.group == group then unit_usage u.group (u.used ++ used) ∷ us else u ∷ with_group us group used

-- The place of the first entry of a rating group (this product's own).
abbrev pub entry_place : List UnitUsage → ℕ → Option ℕ
entry_place [] group = None
entry_place (u ∷ us) group = if u.group == group then Some 0 else option_map (λ i. i + 1) (entry_place us group)

-- An entry without containers adds nothing (this product's own).
abbrev pub with_entry : List UnitUsage → UnitUsage → List UnitUsage
with_entry usage e = if length e.used == 0 then usage else with_group usage e.group e.used

-- A record's containers, after those of these entries came to it, in order (this product's own).
abbrev pub with_usage : List UnitUsage → List UnitUsage → List UnitUsage
with_usage usage [] = usage
with_usage usage (e ∷ es) = with_usage (with_entry usage e) es

-- All containers of some entries (this product's own).
abbrev pub containers_in : List UnitUsage → List Used
containers_in usage = flat_map (λ u. u.used) usage
