-- When each refusal of a store comes (this product's own).
use Rattle.std.specs.Prelude.{◌≡◌, ◌<◌, ◌^◌, ◌+◌, ⊤, ℕ, List, Bool, Option, Some, None, length}
use Rattle.journal.specs.Bytes.{StandsFor}
use Rattle.journal.specs.Refusals.{RefusesStart}
use Rattle.journal.specs.State.{State as Journal}
use Rattle.journal.specs.declared.refusal.JournalRefusal.{JournalRefusal}
use Rattle.journal.specs.declared.refusal.JournalRefusal.TheVariants as journal
use Rattle.durable.specs.Refusals.{RefusesAgain, RefusesEntry, RefusesOwning}
use Rattle.durable.specs.State.{State as Durable}
use Rattle.chf_core.specs.declared.command.Command.{Command}
use Rattle.chf_core.specs.declared.command.Outcome.{Outcome}
use Rattle.chf_core.specs.declared.decision.Verdict.TheVariants.{Fresh}
use Rattle.chf_core.specs.Deciding.{decision}
use Rattle.chf_core.specs.Machine.{MayWantMemory}
use Rattle.chf_payloads.specs.Written.{payload_of}
use Rattle.chf_replay.specs.Entries.{IsBadAt}
use Rattle.chf_store.specs.declared.refusal.StoreRefusal.{StoreRefusal}
use Rattle.chf_store.specs.declared.refusal.StoreRefusal.TheVariants.{Fault, Fenced, Full, NotAJournal, EpochsSpent, BadEntry, Closed, TooLong, OutOfMemory}
use Rattle.chf_store.specs.Stored.{Store}

-- a journal's refusal, handed on
abbrev pub handed_on : JournalRefusal → StoreRefusal
handed_on journal.Fault = Fault
handed_on (journal.Fenced seen) = Fenced seen
handed_on (journal.Full len need) = Full len need
handed_on (journal.NotAJournal at) = NotAJournal at
handed_on journal.EpochsSpent = EpochsSpent
handed_on journal.OutOfMemory = OutOfMemory

-- the list of a disk, which is the one for which its bytes stand where it tells them, has its first bad entry at a place
abbrev pub HasBadEntry : Option (List ℕ) → Option ℕ → ℕ → Type 0
HasBadEntry content epoch place = (list : List (List ℕ)) × IsBadAt list place × ((b : List ℕ) → content ≡ Some b → StandsFor epoch b list)

-- The refusals of a store that is opened: those of the journal, and a bad entry.
abbrev pub RefusesOpening : (content : Option (List ℕ)) (epoch : Option ℕ) (claim : Bool) (before now : ℕ) → StoreRefusal → Type 0
RefusesOpening content epoch claim before now Fault = RefusesStart content epoch claim before now journal.Fault
RefusesOpening content epoch claim before now (Fenced seen) = RefusesStart content epoch claim before now (journal.Fenced seen)
RefusesOpening content epoch claim before now (Full len need) = ⊥
RefusesOpening content epoch claim before now (NotAJournal at) = RefusesStart content epoch claim before now (journal.NotAJournal at)
RefusesOpening content epoch claim before now EpochsSpent = RefusesStart content epoch claim before now journal.EpochsSpent
RefusesOpening content epoch claim before now (BadEntry place) = HasBadEntry content epoch place
RefusesOpening content epoch claim before now Closed = ⊥
RefusesOpening content epoch claim before now (TooLong count) = ⊥
RefusesOpening content epoch claim before now OutOfMemory = ⊤

-- The refusals of a store that is opened again: those of the journal, and a bad entry.
abbrev pub RefusesSettling : (content : Option (List ℕ)) (epoch : Option ℕ) (before now : ℕ) (old : Durable) → StoreRefusal → Type 0
RefusesSettling content epoch before now old Fault = RefusesAgain content epoch before now old journal.Fault
RefusesSettling content epoch before now old (Fenced seen) = RefusesAgain content epoch before now old (journal.Fenced seen)
RefusesSettling content epoch before now old (Full len need) = ⊥
RefusesSettling content epoch before now old (NotAJournal at) = RefusesAgain content epoch before now old (journal.NotAJournal at)
RefusesSettling content epoch before now old EpochsSpent = ⊥
RefusesSettling content epoch before now old (BadEntry place) = HasBadEntry content epoch place
RefusesSettling content epoch before now old Closed = ⊥
RefusesSettling content epoch before now old (TooLong count) = ⊥
RefusesSettling content epoch before now old OutOfMemory = ⊤

-- The refusals of a look at the disk's epoch.
abbrev pub RefusesShowing : (epoch : Option ℕ) (before now : ℕ) (old new : Durable) → StoreRefusal → Type 0
RefusesShowing epoch before now old new Fault = RefusesOwning epoch before now old new journal.Fault
RefusesShowing epoch before now old new (Fenced seen) = RefusesOwning epoch before now old new (journal.Fenced seen)
RefusesShowing epoch before now old new (Full len need) = ⊥
RefusesShowing epoch before now old new (NotAJournal at) = ⊥
RefusesShowing epoch before now old new EpochsSpent = ⊥
RefusesShowing epoch before now old new (BadEntry place) = ⊥
RefusesShowing epoch before now old new Closed = ⊥
RefusesShowing epoch before now old new (TooLong count) = ⊥
RefusesShowing epoch before now old new OutOfMemory = ⊥

-- The refusals of an entry: a journal that is not open, more than 2^24 bytes, or those of the journal; want of memory is none. The first two, and want of room, change nothing.
abbrev pub RefusesKeeping : {D : Type 0} → (epoch : Option ℕ) (before now : ℕ) (old new : Durable) (disk disk_now : D) (payload : List ℕ) → StoreRefusal → Type 0
RefusesKeeping epoch before now old new disk disk_now payload Closed = (old.journal ≡ None) × (new ≡ old) × (disk_now ≡ disk)
RefusesKeeping epoch before now old new disk disk_now payload (TooLong count) = (count ≡ length payload) × (2 ^ 24 < count) × (new ≡ old) × (disk_now ≡ disk)
RefusesKeeping epoch before now old new disk disk_now payload Fault = (j : Journal) × (old.journal ≡ Some j) × RefusesEntry epoch before now j old new disk disk_now (length payload + 5) journal.Fault
RefusesKeeping epoch before now old new disk disk_now payload (Fenced seen) = (j : Journal) × (old.journal ≡ Some j) × RefusesEntry epoch before now j old new disk disk_now (length payload + 5) (journal.Fenced seen)
RefusesKeeping epoch before now old new disk disk_now payload (Full len need) = (j : Journal) × (old.journal ≡ Some j) × RefusesEntry epoch before now j old new disk disk_now (length payload + 5) (journal.Full len need)
RefusesKeeping epoch before now old new disk disk_now payload (NotAJournal at) = ⊥
RefusesKeeping epoch before now old new disk disk_now payload EpochsSpent = ⊥
RefusesKeeping epoch before now old new disk disk_now payload (BadEntry place) = ⊥
RefusesKeeping epoch before now old new disk disk_now payload OutOfMemory = ⊥

-- The refusals of a command that is entered: where it is fresh those of its entry, and, before the disk is asked, want of memory.
abbrev pub RefusesEntering : {D : Type 0} → (epoch : Option ℕ) (before now : ℕ) (old new : Store) (disk disk_now : D) (c : Command) → StoreRefusal → Type 0
RefusesEntering epoch before now old new disk disk_now c OutOfMemory = MayWantMemory old.machine.state c × (new.durable ≡ old.durable) × (disk_now ≡ disk)
RefusesEntering epoch before now old new disk disk_now c other =
    ((o : Outcome) × (decision old.machine.state c ≡ Fresh o)) × RefusesKeeping epoch before now old.durable new.durable disk disk_now (payload_of c) other

-- The refusals of entries that give no machine.
abbrev pub RefusesTaking : (entries : List (List ℕ)) → StoreRefusal → Type 0
RefusesTaking entries (BadEntry place) = IsBadAt entries place
RefusesTaking entries OutOfMemory = ⊤
RefusesTaking entries other = ⊥
