-- Records whose fields ascend, all known and of definite lengths: what their octets spell, piece by piece.
use Rattle.std.specs.Prelude.{◌≡◌, ℕ, ◌⊎◌, Bool, true, false, ◌==◌, if◌then◌else◌, List, [], ◌∷◌, Option, Some, None}
use Rattle.units.specs.declared.request.Used.{Used}
use Rattle.units.specs.declared.request.UnitUsage.{UnitUsage}
use Rattle.ber.specs.Element.{Element, Elements}
use Rattle.ber.specs.Spelling.{SpellsAll, IsSplit}
use Rattle.ber.specs.Grammar.{AllConform}
use Rattle.records.specs.declared.place.Place.{Place}
use Rattle.records.specs.declared.place.Place.TheVariants as places
use Rattle.records.specs.declared.record.Record.{Record}
use Rattle.records.specs.Grammar.{records}
use Rattle.records.specs.Reading.{over, with_trigger, with_used, with_unit_usage, with_field}

-- Octets spell elements, with at most so many within each other, which may stand in a place up to its end and make one value of another (this product's own).
pub record Makes {A : Type 0} (levels : ℕ) (place : Place) (f : A → Element → A) (before after : A) (bytes : List ℕ) : Type 0 where
  pub elements : Elements
  pub spells : SpellsAll levels bytes elements
  pub conform : AllConform records place elements
  pub value : over f before elements ≡ after

-- The octets begin with an element of this identifier octet whose contents have this value; others follow it (X.690 8.1.1).
abbrev pub Has : {V : Type 0} → (List ℕ → Option V) → ℕ → List ℕ → V → List ℕ → Type 0
Has of identifier bytes v rest = (contents : List ℕ) × IsSplit identifier bytes contents rest × (of contents ≡ Some v)

-- A container with these values (this product's own).
abbrev pub used_of : (lsn group up down seconds first last : ℕ) → List (List ℕ) → ℕ → Used
used_of lsn group up down seconds first last triggers moment =
    record { lsn = lsn; group = group; up = up; down = down; seconds = seconds; first = first; last = last; triggers = triggers; moment = moment }

-- The first six fields of a container were seen (TS 32.298, used unit container).
abbrev pub six_seen : List Bool
six_seen = true ∷ true ∷ true ∷ true ∷ true ∷ true ∷ false ∷ false ∷ []

-- The octets are the triggers, if there are any, and the trigger time stamp of a container whose other fields came before (TS 32.298, used unit container).
abbrev pub EndsUsed : List ℕ → List (List ℕ) → ℕ → Type 0
EndsUsed bytes triggers moment =
    (lsn group up down seconds first last : ℕ)
    → Makes 11 (places.Used six_seen 6) with_used (used_of lsn group up down seconds first last [] 0, 0) (used_of lsn group up down seconds first last triggers moment, 0) bytes

-- The octets begin with the triggers of a container, if there are any; others follow (TS 32.298, used unit container).
abbrev pub BeginsTriggers : List ℕ → List (List ℕ) → List ℕ → Type 0
BeginsTriggers bytes triggers rest =
    ((triggers ≡ []) × (rest ≡ bytes)) ⊎ ((contents : List ℕ) × IsSplit 166 bytes contents rest × Makes 10 (places.Triggers false) with_trigger [] triggers contents)

-- The octets begin with the unit usages of a record, if there are any; others follow (TS 32.298, 5.1.5.0).
abbrev pub BeginsUsages : List ℕ → List UnitUsage → List ℕ → Type 0
BeginsUsages bytes usage rest =
    ((usage ≡ []) × (rest ≡ bytes)) ⊎ ((contents : List ℕ) × IsSplit 165 bytes contents rest × Makes 14 (places.Usages false) with_unit_usage ([], 0) (usage, 0) contents)

-- A record with these names and unit usages alone (this product's own).
abbrev pub record_named : (function subscriber consumer : List ℕ) → List UnitUsage → Record
record_named function subscriber consumer usage =
    record { function = function; subscriber = subscriber; consumer = consumer; charging_id = 0; usage = usage; opening = 0; duration = 0; sequence = 0; cause = 0; local = 0 }

-- The same with all other values (this product's own).
abbrev pub record_of : (function subscriber consumer : List ℕ) → List UnitUsage → (opening duration sequence cause local charging_id : ℕ) → Record
record_of function subscriber consumer usage opening duration sequence cause local charging_id =
    record { function = function; subscriber = subscriber; consumer = consumer; charging_id = charging_id; usage = usage; opening = opening; duration = duration; sequence = sequence; cause = cause; local = local }

-- The record type and the names of a record were seen, and its unit usages or not (TS 32.298, 5.1.5.0).
abbrev pub named_seen : Bool → List Bool
named_seen usage = true ∷ true ∷ true ∷ true ∷ false ∷ usage ∷ false ∷ false ∷ false ∷ false ∷ false ∷ false ∷ false ∷ false ∷ []

-- The octets are all fields of a record behind its names and unit usages (TS 32.298, 5.1.5.0).
abbrev pub EndsRecord : List ℕ → (opening duration sequence cause local charging_id : ℕ) → Type 0
EndsRecord bytes opening duration sequence cause local charging_id =
    (seen : Bool) (function subscriber consumer : List ℕ) (usage : List UnitUsage)
    → Makes 15 (places.Record (named_seen seen)) with_field (record_named function subscriber consumer usage, 0) (record_of function subscriber consumer usage opening duration sequence cause local charging_id, 0) bytes

-- What follows the octets BF 81, the first two of the three identifier octets of a record (X.690 8.1.2.4).
abbrev pub behind_kind : List ℕ → Option (List ℕ)
behind_kind [] = None
behind_kind (b ∷ []) = None
behind_kind (b ∷ c ∷ rest) = if b == 191 then (if c == 129 then Some rest else None) else None
