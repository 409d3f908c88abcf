-- JSON as it is written: absent fields and empty lists are left out.
use Rattle.std.specs.Prelude.{ℕ, List, [], ◌∷◌, Option, Some, None}
use Rattle.serde_json.specs.Data.{Data, number, unsigned, string, array, object, Members, no_members, put}
use Rattle.serde_json.specs.View.{items_of}
use Rattle.moments.specs.Text.{time_text}

-- a field, where it has a value
abbrev pub put_if : List ℕ → Option Data → Members → Members
put_if name None members = members
put_if name (Some value) members = put name value members

-- members, and those of these fields that have a value
abbrev pub with_fields : List (List ℕ × Option Data) → Members → Members
with_fields [] members = members
with_fields (f ∷ rest) members = with_fields rest (put_if f.0 f.1 members)

-- the object of those of these fields that have a value
abbrev pub object_of : List (List ℕ × Option Data) → Data
object_of fields = object (with_fields fields no_members)

-- a list, which is absent where it is empty
abbrev pub listed : List Data → Option Data
listed [] = None
listed (value ∷ rest) = Some (array (items_of (value ∷ rest)))

-- a number that is not negative
abbrev pub number_data : ℕ → Data
number_data n = number (unsigned n)

-- a moment as a text `YYYY-MM-DDThh:mm:ssZ`
abbrev pub time_data : ℕ → Data
time_data moment = string (time_text moment)
