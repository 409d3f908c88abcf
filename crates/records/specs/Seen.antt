-- What a book keeps beside its records: the room that it has, in order of its sessions.
use Rattle.std.specs.Prelude.{◌≡◌, ◌≢◌, ◌≤◌, ◌<◌, ◌+◌, ℕ, ◌==◌, ⊤, List, [], ◌∷◌, length, map, Option, Some, None, option_map, IfSome, slice_index, if◌then◌else◌}
use Rattle.units.specs.declared.request.UnitUsage.{UnitUsage}
use Rattle.records.specs.declared.limits.RecordLimits.{RecordLimits}
use Rattle.records.specs.declared.record.Kept.{Kept}
use Rattle.records.specs.declared.session.SessionKept.{SessionKept}
use Rattle.records.specs.Groups.{UnclosedSeen, HasRoom}
use Rattle.records.specs.Book.{Session, Records, closable_in}

-- The session that one is seen as, without room (this product's own).
abbrev pub session_seen : SessionKept → Session
session_seen z = record { number = z.number; subscriber = z.subscriber; consumer = z.consumer; charging_id = z.charging_id; unclosed = option_map (λ u. u.kept) z.unclosed }

-- All of them (this product's own).
abbrev pub sessions_seen : List SessionKept → List Session
sessions_seen zs = map session_seen zs

-- The records that these sessions and closed ones are (this product's own).
abbrev pub records_seen : List SessionKept → List Kept → Records
records_seen zs closed = record { sessions = sessions_seen zs; closed = closed }

-- Their numbers (this product's own).
abbrev pub numbers_of : List SessionKept → List ℕ
numbers_of zs = map (λ z. z.number) zs

-- Each number is below those behind it (this product's own).
abbrev pub IsBelow : ℕ → List ℕ → Type 0
IsBelow n [] = ⊤
IsBelow n (m ∷ ms) = (n < m) × IsBelow n ms

-- The numbers rise (this product's own).
abbrev pub AreRising : List ℕ → Type 0
AreRising [] = ⊤
AreRising (n ∷ ns) = IsBelow n ns × AreRising ns

-- No record that is not closed has a number above that of the closed records and one (this product's own).
abbrev pub SequenceIsWithin : ℕ → SessionKept → Type 0
SequenceIsWithin closed z = IfSome z.unclosed (λ u. u.kept.sequence ≤ closed + 1)

-- The same of all sessions (this product's own).
abbrev pub SequencesAreWithin : ℕ → List SessionKept → Type 0
SequencesAreWithin closed [] = ⊤
SequencesAreWithin closed (z ∷ zs) = SequenceIsWithin closed z × SequencesAreWithin closed zs

-- This holds of the number of each session whose record has a container (this product's own).
abbrev pub EachClosable : (ℕ → Type 0) → List Session → Type 0
EachClosable P [] = ⊤
EachClosable P (z ∷ zs) = (0 < closable_in z.unclosed → P z.number) × EachClosable P zs

-- The session of a number, with its room (this product's own).
abbrev pub kept_of : List SessionKept → ℕ → Option SessionKept
kept_of [] number = None
kept_of (z ∷ zs) number = if z.number == number then Some z else kept_of zs number

-- A book: its limits, its records, the rooms of its sessions, the room of the session that begins next, for how many
-- sessions more there is room, and for how many calls more that add containers or close a record (this product's own).
pub record BookSeen : Type 0 where
  pub limits : RecordLimits
  pub records : Records
  pub kept : List SessionKept
  pub next : UnclosedSeen
  pub places : ℕ
  pub spare : ℕ

-- There is room for the entries of a session, or of one that begins (this product's own).
abbrev pub HasRoomIn : UnclosedSeen → Option SessionKept → List UnitUsage → Type 0
HasRoomIn next None used = HasRoom next used
HasRoomIn next (Some z) used = IfSome z.unclosed (λ u. HasRoom u used)

-- There is room in a book for the entries of a session (this product's own).
abbrev pub HasRoomFor : BookSeen → ℕ → List UnitUsage → Type 0
HasRoomFor b number used = HasRoomIn b.next (kept_of b.kept number) used

-- The number stands at this place (this product's own).
pub record IsThere (numbers : List ℕ) (number at : ℕ) : Type 0 where
  pub within : at < length numbers
  pub is : slice_index numbers at ≡ number

-- The number stands at no place (this product's own).
abbrev pub IsMissing : List ℕ → ℕ → Type 0
IsMissing numbers number = (k : ℕ) → k < length numbers → slice_index numbers k ≢ number

-- The number goes to this place: those before it are smaller, and those from it on greater (this product's own).
pub record IsGap (numbers : List ℕ) (number at : ℕ) : Type 0 where
  pub within : at ≤ length numbers
  pub smaller : (k : ℕ) → k < at → slice_index numbers k < number
  pub greater : (k : ℕ) → at ≤ k → k < length numbers → number < slice_index numbers k
