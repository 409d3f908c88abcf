-- When each refusal comes, and what it leaves (this product's own).
use Rattle.std.specs.Prelude.{◌≡◌, ◌<◌, ◌≤◌, ◌+◌, ◌-◌, ◌^◌, ⊤, ℕ, Bool, List, Option, Some, None, true}
use Rattle.edge.specs.Faults.{CountRose}
use Rattle.edge.specs.declared.disk.DiskRefusal.{DiskRefusal}
use Rattle.edge.specs.declared.disk.DiskRefusal.TheVariants.{Failed, Fenced as DiskFenced}
use Rattle.journal.specs.declared.refusal.JournalRefusal.{JournalRefusal}
use Rattle.journal.specs.declared.refusal.JournalRefusal.TheVariants.{Fault, Fenced, Full, NotAJournal, EpochsSpent, OutOfMemory}
use Rattle.journal.specs.Reads.{IsNoJournal}
use Rattle.journal.specs.State.{State, unsound}

-- a disk's refusal, handed on
abbrev pub handed_on : DiskRefusal → JournalRefusal
handed_on Failed = Fault
handed_on (DiskFenced e) = Fenced e

-- The refusals of `append`: a fault of the disk, a greater epoch of the disk, or want of room, which comes first and changes nothing.
abbrev pub RefusesEntry : {D : Type 0} → (epoch : Option ℕ) (before now : ℕ) (old new : State) (disk disk_now : D) (need : ℕ) → JournalRefusal → Type 0
RefusesEntry epoch before now old new disk disk_now need Fault = CountRose before now × (new ≡ unsound old)
RefusesEntry epoch before now old new disk disk_now need (Fenced s) = (old.epoch < s) × ((e : ℕ) → epoch ≡ Some e → s ≡ e) × (new ≡ unsound old)
RefusesEntry epoch before now old new disk disk_now need (Full len n) = (len ≡ old.length) × (n ≡ need) × (old.limit < len + n) × (new ≡ old) × (disk_now ≡ disk)
RefusesEntry epoch before now old new disk disk_now need (NotAJournal at) = ⊥
RefusesEntry epoch before now old new disk disk_now need EpochsSpent = ⊥
RefusesEntry epoch before now old new disk disk_now need OutOfMemory = ⊥

-- The refusals of a reading: a fault of the disk, bytes that are no journal, or want of memory.
abbrev pub RefusesReading : (content : Option (List ℕ)) (before now : ℕ) → JournalRefusal → Type 0
RefusesReading content before now Fault = CountRose before now
RefusesReading content before now (Fenced s) = ⊥
RefusesReading content before now (Full len n) = ⊥
RefusesReading content before now (NotAJournal at) = (b : List ℕ) → content ≡ Some b → IsNoJournal b at
RefusesReading content before now EpochsSpent = ⊥
RefusesReading content before now OutOfMemory = ⊤

-- The refusals of `view`: those, where the epoch is not 0, and a greater epoch of a disk that does not tell it.
abbrev pub RefusesView : (content : Option (List ℕ)) (epoch : Option ℕ) (before now : ℕ) → JournalRefusal → Type 0
RefusesView content epoch before now Fault = CountRose before now
RefusesView content epoch before now (Fenced s) = epoch ≡ None
RefusesView content epoch before now (Full len n) = ⊥
RefusesView content epoch before now (NotAJournal at) = (e : ℕ) (b : List ℕ) → epoch ≡ Some e → content ≡ Some b → (1 ≤ e) × IsNoJournal b at
RefusesView content epoch before now EpochsSpent = ⊥
RefusesView content epoch before now OutOfMemory = ⊤

-- The refusals of making a journal: a fault, and a greater epoch of a disk that does not tell it.
abbrev pub RefusesMaking : (epoch : Option ℕ) (before now : ℕ) → JournalRefusal → Type 0
RefusesMaking epoch before now Fault = CountRose before now
RefusesMaking epoch before now (Fenced s) = epoch ≡ None
RefusesMaking epoch before now (Full len n) = ⊥
RefusesMaking epoch before now (NotAJournal at) = ⊥
RefusesMaking epoch before now EpochsSpent = ⊥
RefusesMaking epoch before now OutOfMemory = ⊥

-- The refusals of `start`: those of `view`, and that no epoch is left to claim.
abbrev pub RefusesStart : (content : Option (List ℕ)) (epoch : Option ℕ) (claim : Bool) (before now : ℕ) → JournalRefusal → Type 0
RefusesStart content epoch claim before now Fault = CountRose before now
RefusesStart content epoch claim before now (Fenced s) = epoch ≡ None
RefusesStart content epoch claim before now (Full len n) = ⊥
RefusesStart content epoch claim before now (NotAJournal at) = (e : ℕ) (b : List ℕ) → epoch ≡ Some e → content ≡ Some b → (1 ≤ e) × IsNoJournal b at
RefusesStart content epoch claim before now EpochsSpent = (claim ≡ true) × ((e : ℕ) → epoch ≡ Some e → 2 ^ 63 - 1 ≤ e)
RefusesStart content epoch claim before now OutOfMemory = ⊤

-- the same of the step that takes an epoch
abbrev pub RefusesEpoch : (epoch : Option ℕ) (claim : Bool) (found before now : ℕ) → JournalRefusal → Type 0
RefusesEpoch epoch claim found before now Fault = CountRose before now
RefusesEpoch epoch claim found before now (Fenced s) = epoch ≡ None
RefusesEpoch epoch claim found before now (Full len n) = ⊥
RefusesEpoch epoch claim found before now (NotAJournal at) = ⊥
RefusesEpoch epoch claim found before now EpochsSpent = (claim ≡ true) × (2 ^ 63 - 1 ≤ found)
RefusesEpoch epoch claim found before now OutOfMemory = ⊥
