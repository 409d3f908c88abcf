-- A link in memory after its calls (this product's own).
use Rattle.std.specs.Prelude.{ℕ, ◌≡◌, ◌<◌, ◌⊎◌, true, false, List, [], length, Option, Result, Ok, Err}
use Rattle.edge.specs.Faults.{next_count}
use Rattle.edge.specs.Memory.{after_call}
use Rattle.edge.specs.Openings.{kept_peer}
use Rattle.edge.specs.Visits.{MemoryStreams, after_opening}
use Rattle.edge.specs.declared.traits.Failed.{Failed}

-- the connections, how often connect was called and how often it failed, and the peer of the latest call
pub record MemoryLink : Type 0 where
  pub streams : MemoryStreams
  pub connects : ℕ
  pub failed_connects : ℕ
  pub latest_peer : Option (List ℕ)

-- a connect cannot be served where no reply is to come, or the name of the peer is too long
abbrev pub CannotConnect : List ℕ → MemoryLink → Type 0
CannotConnect peer link = (link.streams.to_come ≡ []) ⊎ (255 < length peer)

-- a call of connect to this peer is counted, and the peer kept
abbrev pub asked : List ℕ → MemoryLink → MemoryLink
asked peer link = record link { connects = next_count link.connects; latest_peer = kept_peer peer }

-- after a call of connect to this peer
abbrev pub after_connecting : {T : Type 0} → Result T Failed → List ℕ → MemoryLink → MemoryLink
after_connecting (Ok done) peer link =
    record (asked peer link) { streams = after_opening peer link.streams.to_come (record link.streams { script = after_call false link.streams.script }) }
after_connecting (Err failed) peer link =
    record (asked peer link) { streams = record link.streams { script = after_call true link.streams.script }; failed_connects = next_count link.failed_connects }
