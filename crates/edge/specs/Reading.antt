-- How a reading to the end may end without its bytes (this product's own).
use Rattle.std.specs.Prelude.{◌≡◌, ℕ, List, Bool, true, false, Option, option_map}
use Rattle.std.specs.Io.KnownBytes.{Consumes}
use Rattle.edge.specs.Connections.{Connection, after_read}
use Rattle.edge.specs.declared.reading.ReadEnd.{ReadEnd}
use Rattle.edge.specs.declared.reading.ReadEnd.TheVariants as end

-- whether a read failed
abbrev pub is_failed_read : ReadEnd → Bool
is_failed_read end.Failed = true
is_failed_read end.TooLong = false
is_failed_read end.OutOfMemory = false

-- some bytes were read by then, and a read failed exactly where the answer says so
pub record EndsReading (why : ReadEnd) (left left_now : Option (List ℕ)) (connections connections_now : Option (List Connection)) : Type 0 where
  pub bytes : List ℕ
  pub taken : Consumes left left_now bytes
  pub present : connections_now ≡ option_map (after_read bytes (is_failed_read why)) connections
