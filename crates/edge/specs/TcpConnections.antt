-- What a clause reads of connections of the system (this product's own).
use Rattle.std.specs.Prelude.{ℕ, Bool, false, not, ◌||◌, if◌then◌else◌}
use Rattle.edge.specs.Faults.{next_count}

-- whether a connection is open, and both counts
pub record Socket : Type 0 where
  pub is_open : Bool
  pub faults : ℕ
  pub failed_openings : ℕ

-- a door of the system: whether it has an address at which it listens, and its connection
pub record Doorway : Type 0 where
  pub listens : Bool
  pub socket : Socket

-- no connection, and nothing failed so far
abbrev pub unused : Socket
unused = record { is_open = false; faults = 0; failed_openings = 0 }

-- after a read or a write, which is one fault more where it failed
abbrev pub after_use : Bool → Socket → Socket
after_use failed socket = record socket { faults = if failed then next_count socket.faults else socket.faults }

-- after an opening: where it failed each count is one more, and the connection is the one before
abbrev pub after_attempt : Bool → Socket → Socket
after_attempt failed socket = record {
  is_open = not failed || socket.is_open;
  faults = if failed then next_count socket.faults else socket.faults;
  failed_openings = if failed then next_count socket.failed_openings else socket.failed_openings;
}
