-- The connections of a door or a link in memory, and what is to come (this product's own).
use Rattle.std.specs.Prelude.{ℕ, ◌-◌, ◌≡◌, ◌≤◌, ◌<◌, ◌⊎◌, Bool, true, false, List, [], ◌∷◌, ◌++◌, length, take, drop, map, reverse, min, Option, Some, None, IfSome, IfOk, Result}
use Rattle.std.specs.Io.{ReadsAtMost}
use Rattle.std.specs.Io.KnownBytes.{ReadConsumes, WriteAppends}
use Rattle.edge.specs.Faults.{FailsOnlyWithFault}
use Rattle.edge.specs.Connections.{Connection, after_read, after_write, bytes_read, bytes_taken, has_failed, left_of, written_of}
use Rattle.edge.specs.Openings.{opened}
use Rattle.edge.specs.Memory.{Played, Plays}
use Rattle.edge.specs.declared.memory_streams.Visit.{Visit}

-- the bytes of the connections to come, the first one first, the connections, the newest first, whether the newest is open,
-- all bytes written, how many there may be, and the script
pub record MemoryStreams : Type 0 where
  pub to_come : List (List ℕ)
  pub connections : List Connection
  pub is_open : Bool
  pub all : List ℕ
  pub capacity : ℕ
  pub script : Played

-- no connection so far
abbrev pub unopened : List (List ℕ) → ℕ → Played → MemoryStreams
unopened to_come capacity script = record { to_come = to_come; connections = []; is_open = false; all = []; capacity = capacity; script = script }

-- whether nothing is to come
abbrev pub is_none : List (List ℕ) → Bool
is_none [] = true
is_none (bytes ∷ more) = false

-- after the next connection was opened to this peer, if one is to come
abbrev pub after_opening : List ℕ → List (List ℕ) → MemoryStreams → MemoryStreams
after_opening peer [] streams = streams
after_opening peer (bytes ∷ more) streams = record streams { to_come = more; connections = opened peer bytes ∷ streams.connections; is_open = true }

-- a read of the present connection: it fails exactly by the script or where none is open, and gives what is left and fits
pub record ReadsPresent {E : Type 0} (before now : MemoryStreams) (result : Result ℕ E) (into : List ℕ) : Type 0 where
  pub bound : ReadsAtMost result into
  pub bytes : ReadConsumes (left_of before.connections) (left_of now.connections) result into
  pub whole : IfOk result (λ n. IfSome (left_of before.connections) (λ left. n ≡ min (length left) (length into)))
  pub connections : now.connections ≡ after_read (bytes_read result into) (has_failed result) before.connections
  pub script : Plays before.script now.script (before.is_open ≡ false) result
  pub cause : FailsOnlyWithFault before.script.faults now.script.faults result
  pub rest : now ≡ record before { connections = now.connections; script = now.script }

-- there are bytes to write, and no place
abbrev pub IsFullOf : MemoryStreams → List ℕ → Type 0
IsFullOf streams bytes = (streams.capacity ≤ length streams.all) × (0 < length bytes)

-- a write to the present connection: it fails exactly by the script, where none is open or nothing fits, and takes what fits
pub record WritesPresent {E : Type 0} (before now : MemoryStreams) (result : Result ℕ E) (bytes : List ℕ) : Type 0 where
  pub whole : IfOk result (λ n. n ≡ min (length bytes) (before.capacity - length before.all))
  pub some : IfOk result (λ n. 0 < length bytes → 0 < n)
  pub taken : WriteAppends (written_of before.connections) (written_of now.connections) result bytes
  pub connections : now.connections ≡ after_write (bytes_taken result bytes) (has_failed result) before.connections
  pub script : Plays before.script now.script ((before.is_open ≡ false) ⊎ IsFullOf before bytes) result
  pub cause : FailsOnlyWithFault before.script.faults now.script.faults result
  pub rest : now ≡ record before { connections = now.connections; all = before.all ++ bytes_taken result bytes; script = now.script }

-- the connection of a visit, where these are the bytes written in all
abbrev pub connection_of : List ℕ → Visit → Connection
connection_of all visit = record {
  peer = visit.peer;
  read = take visit.at visit.bytes;
  left = drop visit.at visit.bytes;
  written = take (visit.to - visit.«from») (drop visit.«from» all);
  read_failed = visit.read_failed;
  write_failed = visit.write_failed;
}

-- the connections of the present visit and the earlier ones, of which the oldest comes first
abbrev pub connections_of : List ℕ → Option Visit → List Visit → List Connection
connections_of all None earlier = []
connections_of all (Some present) earlier = connection_of all present ∷ reverse (map (connection_of all) earlier)

-- a visit's bytes are read up to a place in them, and it wrote a part of all that was written
pub record IsVisit (written : ℕ) (visit : Visit) : Type 0 where
  pub at : visit.at ≤ length visit.bytes
  pub part : visit.«from» ≤ visit.to
  pub within : visit.to ≤ written

-- the present visit wrote last
pub record IsPresent (written : ℕ) (visit : Visit) : Type 0 where
  pub at : visit.at ≤ length visit.bytes
  pub part : visit.«from» ≤ visit.to
  pub last : visit.to ≡ written

-- before the first visit nothing is open
abbrev pub IsPresentIn : ℕ → Bool → List Visit → Option Visit → Type 0
IsPresentIn written is_open earlier None = (is_open ≡ false) × (earlier ≡ [])
IsPresentIn written is_open earlier (Some visit) = IsPresent written visit

-- how many visits these are
abbrev pub places : Option Visit → ℕ
places None = 0
places (Some visit) = 1
