-- Values whose text reads as the same value (RFC 8259; numbers of 64 bits and 127 levels are this product's own).
use Rattle.std.specs.Prelude.{◌≡◌, ℕ, suc, ◌^◌, ◌<◌, ◌≤◌, IsTrue, List, [], ◌∷◌, Option, Some, None, bytes_eq, if◌then◌else◌}
use Rattle.serde_json.specs.Data.{Data, string, depth}
use Rattle.serde_json.specs.Read.{of_json}
use Rattle.serde_json.specs.Written.{outline}
use Rattle.json_objects.specs.Fields.{unless_null, given}
use Rattle.json_objects.specs.Objects.{number_data, object_of, listed}
use Rattle.json_objects.specs.Tokens.{do_ascend}

-- its numbers read as themselves, each name stands once and in order, and it nests at most so deep
pub record CanBeRead (levels : ℕ) (value : Data) : Type 0 where
  pub exact : of_json (outline value) ≡ Some value
  pub deep : depth value ≤ levels

-- the same of a value that may be absent
abbrev pub IfThere : ℕ → Option Data → Type 0
IfThere levels None = Unit {0}
IfThere levels (Some value) = CanBeRead levels value

-- of each field
abbrev pub FieldsCanBeRead : ℕ → List (List ℕ × Option Data) → Type 0
FieldsCanBeRead levels [] = Unit {0}
FieldsCanBeRead levels (f ∷ rest) = IfThere levels f.1 × FieldsCanBeRead levels rest

-- of each item
abbrev pub ItemsCanBeRead : ℕ → List Data → Type 0
ItemsCanBeRead levels [] = Unit {0}
ItemsCanBeRead levels (value ∷ rest) = CanBeRead levels value × ItemsCanBeRead levels rest

-- the first that is there
abbrev pub or_else : Option Data → Option Data → Option Data
or_else None later = later
or_else (Some value) later = Some value

-- the last field of a name
abbrev pub found : List ℕ → List (List ℕ × Option Data) → Option Data
found name [] = None
found name (f ∷ rest) = if bytes_eq name f.0 then or_else (found name rest) f.1 else found name rest

-- what is made of such values is such a value, and a reader finds each field under its name
pub record ReadBackLaws : Type 0 where
  pub texts : (levels : ℕ) (text : List ℕ) → CanBeRead levels (string text)
  pub numbers : (levels n : ℕ) → n < 2 ^ 64 → CanBeRead levels (number_data n)
  pub objects : (levels : ℕ) (fields : List (List ℕ × Option Data)) → IsTrue (do_ascend fields) → FieldsCanBeRead levels fields → CanBeRead (suc levels) (object_of fields)
  pub lists : (levels : ℕ) (values : List Data) → ItemsCanBeRead levels values → IfThere (suc levels) (listed values)
  pub deeper : (levels more : ℕ) (value : Data) → levels ≤ more → CanBeRead levels value → CanBeRead more value
  pub look_up : (name : List ℕ) (fields : List (List ℕ × Option Data)) → given name (object_of fields) ≡ unless_null (found name fields)
