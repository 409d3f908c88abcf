-- What a call of a disk in memory does, by the turn that it meets (this product's own).
use Rattle.std.specs.Prelude.{◌≡◌, ◌≤◌, ◌<◌, ◌+◌, ◌⊎◌, ℕ, Bool, true, false, length, Result, Err, is_ok, IsTrue, OnOk, Some, ⊤, if◌then◌else◌}
use Rattle.edge.specs.Disk.{KeepsImages, KeepsRoom, Room}
use Rattle.edge.specs.Faults.{CountRose, FailsWithCause}
use Rattle.edge.specs.DiskScript.{Calls, Leaves, after_turn, is_going, is_ready, turn_of, with_fault}
use Rattle.edge.specs.Stored.{Stored, IsImageOf, has_span}
use Rattle.edge.specs.declared.disk.DiskRefusal.{DiskRefusal}
use Rattle.edge.specs.declared.disk.DiskRefusal.TheVariants.{Failed, Fenced}
use Rattle.edge.specs.declared.disk_script.Turn.{Turn}
use Rattle.edge.specs.declared.disk_script.Turn.TheVariants.{Goes, Fails, Stops}
use Rattle.edge.specs.declared.memory_disk.MemDisk.{MemDisk}

-- its bytes, what it is told of its calls to come, and its epoch
abbrev pub store_of : MemDisk → Stored
store_of disk = disk.store

-- what it is told of its calls to come
abbrev pub calls_of : MemDisk → Calls
calls_of disk = disk.script

-- its epoch
abbrev pub epoch_of : MemDisk → ℕ
epoch_of disk = disk.own

-- the room that it tells
abbrev pub room_of : MemDisk → Room
room_of disk = record { size = disk.store.size; ranges = length disk.store.spans; ready = is_ready disk.script }

-- a call goes well exactly where its turn goes on; then it has made these bytes and this epoch, and at a stop it had reached those
pub record Makes {T E : Type 0} (old new : MemDisk) (reached made : Stored) (claimed : ℕ) (result : Result T E) : Type 0 where
  pub answer : is_ok result ≡ is_going (turn_of old.script)
  pub calls : new.script ≡ after_turn old.script
  pub store : Leaves (turn_of old.script) old.script.fill old.store reached made new.store
  pub epoch : new.own ≡ (if is_going (turn_of old.script) then claimed else old.own)

-- the refusal of a call under an epoch below the disk's
abbrev pub refusal_at : Turn → ℕ → DiskRefusal
refusal_at Goes own = Fenced own
refusal_at Fails own = Failed
refusal_at Stops own = Failed

-- such a call is counted and changes nothing else
pub record TurnsAway {T : Type 0} (old new : MemDisk) (result : Result T DiskRefusal) : Type 0 where
  pub answer : result ≡ Err (refusal_at (turn_of old.script) old.own)
  pub calls : new.script ≡ after_turn old.script
  pub store : new.store ≡ old.store
  pub epoch : new.own ≡ old.own

-- there is room for a write, and a place for its range
abbrev pub HasRoomFor : ℕ → ℕ → Stored → Type 0
HasRoomFor at size s = (at + size ≤ s.size) × ((has_span at size s.spans ≡ true) ⊎ (length s.spans < 16))

-- a write without room fails, and a stop at it leaves no range of it
pub record Overruns {T : Type 0} (old new : MemDisk) (result : Result T DiskRefusal) : Type 0 where
  pub answer : result ≡ Err Failed
  pub calls : new.script ≡ (if is_going (turn_of old.script) then with_fault (after_turn old.script) else after_turn old.script)
  pub store : Leaves (turn_of old.script) old.script.fill old.store old.store old.store new.store
  pub epoch : new.own ≡ old.own

-- what a call that makes nothing leaves: all as it was where it goes on, and else an image of what was, with a fault
pub record HasPassed (old new : Stored) (before now : ℕ) (goes ready ready_now : Bool) : Type 0 where
  pub same : IsTrue goes → (new ≡ old) × (now ≡ before)
  pub later : before ≤ now
  pub rose : goes ≡ false → CountRose before now
  pub images : KeepsImages (IsImageOf old) (IsImageOf new)
  pub size : new.size ≡ old.size
  pub ranges : length new.spans ≤ length old.spans
  pub goes_on : IsTrue ready → IsTrue goes × IsTrue ready_now

-- a call that makes nothing of the bytes and the epoch
pub record IsQuiet {T E : Type 0} (old new : MemDisk) (result : Result T E) (failed : Type 0) : Type 0 where
  pub same : OnOk result (Some new.store.bytes ≡ Some old.store.bytes)
  pub epoch : Some new.own ≡ Some old.own
  pub crash : KeepsImages (IsImageOf old.store) (IsImageOf new.store)
  pub cause : FailsWithCause old.script.faults new.script.faults failed
  pub room : KeepsRoom old.script.faults new.script.faults (Some (room_of old)) (Some (room_of new)) (λ r. ⊤) 0
