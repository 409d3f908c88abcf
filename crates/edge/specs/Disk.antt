-- What the calls of a disk do to its bytes, and what a crash may leave.
use Rattle.std.specs.Prelude.{◌≡◌, ◌<◌, ◌≤◌, ◌+◌, ◌-◌, ◌⊎◌, ⊤, ℕ, max, List, ◌++◌, length, get_or, take, drop, replicate, Result, Ok, Err, Option, Some, is_some, Bool, IsTrue}
use Rattle.edge.specs.declared.disk.DiskRefusal.{DiskRefusal}
use Rattle.edge.specs.declared.disk.DiskRefusal.TheVariants.{Failed, Fenced}

-- the bytes after a write; a gap before it is zeros
abbrev pub overwritten : ℕ → List ℕ → List ℕ → List ℕ
overwritten at bytes old = take at (old ++ replicate (at - length old) 0) ++ bytes ++ drop (at + length bytes) old

-- What a write of n bytes may leave until the next sync: any bytes in its range and past the old end, the others as they were.
pub record Torn (at n : ℕ) (old new : List ℕ) : Type 0 where
  pub same : (k : ℕ) → k < length old → (k < at) ⊎ (at + n ≤ k) → get_or new k 0 ≡ get_or old k 0
  pub no_shorter : length old ≤ length new
  pub no_longer : length new ≤ max (length old) (at + n)

-- each new image is an old one after a step
abbrev pub EachFollows : (List ℕ → List ℕ → Type 0) → (List ℕ → Type 0) → (List ℕ → Type 0) → Type 0
EachFollows step old new = (c : List ℕ) → new c → (d : List ℕ) × old d × step d c

-- no image is new
abbrev pub KeepsImages : (List ℕ → Type 0) → (List ℕ → Type 0) → Type 0
KeepsImages old new = (c : List ℕ) → new c → old c

-- each image is what a read gives
abbrev pub IsOnlyImage : Option (List ℕ) → (List ℕ → Type 0) → Type 0
IsOnlyImage content images = (c : List ℕ) → images c → content ≡ Some c

-- `Failed` was answered
abbrev pub IsFailed : {T : Type 0} → Result T DiskRefusal → Type 0
IsFailed (Ok x) = ⊥
IsFailed (Err Failed) = Unit {0}
IsFailed (Err (Fenced e)) = ⊥

-- the epoch that a refusal names has P
abbrev pub IfFenced : {T : Type 0} → Result T DiskRefusal → (ℕ → Type 0) → Type 0
IfFenced (Ok x) P = ⊤
IfFenced (Err Failed) P = ⊤
IfFenced (Err (Fenced e)) P = P e

-- a call under an epoch that the disk refuses changes nothing
pub record ChangesNothing (bytes bytes_now : Option (List ℕ)) (told told_now : Option ℕ) (old new : List ℕ → Type 0) : Type 0 where
  pub content : bytes_now ≡ bytes
  pub epoch : told_now ≡ told
  pub images : KeepsImages old new

-- The room of a disk that tells it: its size, the ranges written since the last sync, and that neither a stop nor a failure is to come or stands.
pub record Room : Type 0 where
  pub size : ℕ
  pub ranges : ℕ
  pub ready : Bool

-- What a call does to the room, and that an allowed call counts no fault where none is to come.
pub record KeepsRoom (before now : ℕ) (old new : Option Room) (allowed : Room → Type 0) (added : ℕ) : Type 0 where
  pub told : is_some new ≡ is_some old
  pub size : (r s : Room) → old ≡ Some r → new ≡ Some s → s.size ≡ r.size
  pub ranges : (r s : Room) → old ≡ Some r → new ≡ Some s → s.ranges ≤ r.ranges + added
  pub ready : (r s : Room) → old ≡ Some r → new ≡ Some s → IsTrue r.ready → IsTrue s.ready
  pub no_fault : (r : Room) → old ≡ Some r → IsTrue r.ready → allowed r → now ≡ before
