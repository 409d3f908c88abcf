-- A door in memory after its calls (this product's own).
use Rattle.std.specs.Prelude.{ℕ, Bool, true, false, [], Result, Ok, Err}
use Rattle.edge.specs.Faults.{next_count}
use Rattle.edge.specs.Memory.{after_call}
use Rattle.edge.specs.Visits.{MemoryStreams, after_opening}
use Rattle.edge.specs.declared.traits.Failed.{Failed}

-- the connections, and how many calls of accept failed
pub record MemoryDoor : Type 0 where
  pub streams : MemoryStreams
  pub failed_accepts : ℕ

-- after a call of accept
abbrev pub after_accept : Result Bool Failed → MemoryDoor → MemoryDoor
after_accept (Ok came) door =
    record door { streams = after_opening [] door.streams.to_come (record door.streams { script = after_call false door.streams.script }) }
after_accept (Err failed) door =
    record door { streams = record door.streams { script = after_call true door.streams.script }; failed_accepts = next_count door.failed_accepts }
