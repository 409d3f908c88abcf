-- The bytes of a disk in memory, and what a crash may leave of them (this product's own).
use Rattle.std.specs.Prelude.{◌≡◌, ◌<◌, ◌≤◌, ◌+◌, ◌-◌, ◌%◌, ◌⊎◌, ◌&&◌, ℕ, min, List, [], ◌∷◌, ◌++◌, length, get_or, Bool, nat_eq, nat_lt, nat_le, if◌then◌else◌}
use Rattle.std.specs.List.{list_any}
use Rattle.edge.specs.Disk.{overwritten}
use Rattle.edge.specs.declared.disk_store.Span.{Span}

-- some range has this place
abbrev pub IsCovered : List Span → ℕ → Type 0
IsCovered [] k = ⊥
IsCovered (s ∷ spans) k = ((s.at ≤ k) × (k < s.at + s.size)) ⊎ IsCovered spans k

-- the bytes, how many there were at the last sync, the ranges written since, and the room
pub record Stored : Type 0 where
  pub bytes : List ℕ
  pub synced : ℕ
  pub spans : List Span
  pub size : ℕ

-- whether a range is among these
abbrev pub has_span : ℕ → ℕ → List Span → Bool
has_span at size spans = list_any (λ (s : Span). nat_eq s.at at && nat_eq s.size size) spans

-- these ranges and one more, which is kept once
abbrev pub with_span : ℕ → ℕ → List Span → List Span
with_span at size spans = if has_span at size spans then spans else spans ++ record { at = at; size = size } ∷ []

-- after a write
abbrev pub written : ℕ → List ℕ → Stored → Stored
written at bytes s = record { bytes = overwritten at bytes s.bytes; synced = s.synced; spans = with_span at (length bytes) s.spans; size = s.size }

-- after a sync
abbrev pub synced : Stored → Stored
synced s = record { bytes = s.bytes; synced = length s.bytes; spans = []; size = s.size }

-- the byte at a place once the ranges hold a fill, each repeated from its start, the later ones over the earlier; an empty fill changes nothing
abbrev pub filled_byte : List ℕ → List Span → ℕ → ℕ → ℕ
filled_byte fill [] k byte = byte
filled_byte fill (s ∷ spans) k byte = filled_byte fill spans k (if nat_le s.at k && nat_lt k (s.at + s.size) && nat_lt 0 (length fill) then get_or fill ((k - s.at) % length fill) 0 else byte)

-- after a crash that left this fill in the ranges: no range is left, and all counts as synced
pub record IsSettled (fill : List ℕ) (old new : Stored) : Type 0 where
  pub long : length new.bytes ≡ length old.bytes
  pub filled : (k : ℕ) → k < length old.bytes → get_or new.bytes k 0 ≡ filled_byte fill old.spans k (get_or old.bytes k 0)
  pub rest : new ≡ record { bytes = new.bytes; synced = length old.bytes; spans = []; size = old.size }

-- what a crash may leave: any bytes in the ranges and past the length at the last sync, the others as they are
pub record IsImageOf (s : Stored) (c : List ℕ) : Type 0 where
  pub no_shorter : min s.synced (length s.bytes) ≤ length c
  pub no_longer : length c ≤ length s.bytes
  pub same : (k : ℕ) → k < length c → k < s.synced → (IsCovered s.spans k → ⊥) → get_or c k 0 ≡ get_or s.bytes k 0
