-- The JSON object that the body of a message is (RFC 8259; arrays and objects nest at most 127 deep, it counted).
use Rattle.std.specs.Prelude.{ℕ, List, Option, Some, None, if◌then◌else◌}
use Rattle.std.specs.Str.{is_utf8}
use Rattle.serde_json.specs.Data.{Data}
use Rattle.serde_json.specs.Read.{read}
use Rattle.json_objects.specs.Fields.{is_object}

-- a value that is an object
abbrev pub object_within : Option Data → Option Data
object_within None = None
object_within (Some value) = if is_object value then Some value else None

-- the object that a body is: the body is UTF-8 and, as JSON, that object
abbrev pub object_in : List ℕ → Option Data
object_in body = if is_utf8 body then object_within (read body) else None
