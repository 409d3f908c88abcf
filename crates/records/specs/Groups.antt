-- The containers of a record that is not closed, with the room that each rating group has.
use Rattle.std.specs.Prelude.{◌≢◌, ◌≤◌, ℕ, ◌+◌, ◌==◌, ⊤, option_map, List, [], ◌∷◌, length, map, Option, Some, None, IfSome, if◌then◌else◌}
use Rattle.units.specs.declared.request.Used.{Used}
use Rattle.units.specs.declared.request.UnitUsage.{UnitUsage}
use Rattle.records.specs.declared.record.Kept.{Kept}
use Rattle.records.specs.Usage.{unit_usage}

-- What a record that is not closed has of a rating group, and for how many containers more there is room (this product's own).
pub record GroupSeen : Type 0 where
  pub group : ℕ
  pub used : List Used
  pub room : ℕ

-- The entries of a record that these groups are (this product's own).
abbrev pub usage_seen : List GroupSeen → List UnitUsage
usage_seen groups = map (λ g. unit_usage g.group g.used) groups

-- The place of the first group with a number (this product's own).
abbrev pub place_of : List GroupSeen → ℕ → Option ℕ
place_of [] group = None
place_of (g ∷ gs) group = if g.group == group then Some 0 else option_map (λ i. i + 1) (place_of gs group)

-- The room of the first group with a number, none where there is no such group (this product's own).
abbrev pub room_of : List GroupSeen → ℕ → Option ℕ
room_of [] group = None
room_of (g ∷ gs) group = if g.group == group then Some g.room else room_of gs group

-- A record that is not closed, with its room (this product's own).
pub record UnclosedSeen : Type 0 where
  pub kept : Kept
  pub groups : List GroupSeen
  -- for how many groups more
  pub spare : ℕ

-- The containers of an entry have their places, where its group is there (this product's own).
abbrev pub HasPlaces : List GroupSeen → UnitUsage → Type 0
HasPlaces groups e = IfSome (room_of groups e.group) (λ room. length e.used ≤ room)

-- These of all entries have (this product's own).
abbrev pub HaveAllPlaces : List GroupSeen → List UnitUsage → Type 0
HaveAllPlaces groups [] = ⊤
HaveAllPlaces groups (e ∷ es) = HasPlaces groups e × HaveAllPlaces groups es

-- No entry of the list is of this group (this product's own).
abbrev pub IsNot : ℕ → List UnitUsage → Type 0
IsNot group [] = ⊤
IsNot group (e ∷ es) = (e.group ≢ group) × IsNot group es

-- No group stands twice (this product's own).
abbrev pub AreApart : List UnitUsage → Type 0
AreApart [] = ⊤
AreApart (e ∷ es) = IsNot e.group es × AreApart es

-- There is room for these entries, no two of one group (this product's own).
pub record HasRoom (u : UnclosedSeen) (used : List UnitUsage) : Type 0 where
  pub apart : AreApart used
  pub spare : length used ≤ u.spare
  pub places : HaveAllPlaces u.groups used
