-- When each refusal of a durable list comes, and what it leaves (this product's own).
use Rattle.std.specs.Prelude.{◌≡◌, ◌<◌, ◌+◌, ◌⊎◌, ⊤, ℕ, List, Option, Some, None, false}
use Rattle.edge.specs.Faults.{CountRose}
use Rattle.journal.specs.Reads.{IsNoJournal}
use Rattle.journal.specs.State.{State as Journal}
use Rattle.journal.specs.declared.refusal.JournalRefusal.{JournalRefusal}
use Rattle.journal.specs.declared.refusal.JournalRefusal.TheVariants.{Fault, Fenced, Full, NotAJournal, EpochsSpent, OutOfMemory}
use Rattle.durable.specs.State.{State, closed}

-- a greater epoch than this one was seen, which is that of the disk, if it tells it
abbrev pub IsAbove : ℕ → ℕ → Option ℕ → Type 0
IsAbove own seen epoch = (own < seen) × ((e : ℕ) → epoch ≡ Some e → seen ≡ e)

-- The refusals of an entry: a fault, a greater epoch of the disk, or want of room, which changes nothing.
abbrev pub RefusesEntry : {D : Type 0} → (epoch : Option ℕ) (before now : ℕ) (journal : Journal) (old new : State) (disk disk_now : D) (need : ℕ) → JournalRefusal → Type 0
RefusesEntry epoch before now journal old new disk disk_now need Fault = CountRose before now × (new ≡ closed old)
RefusesEntry epoch before now journal old new disk disk_now need (Fenced seen) = IsAbove journal.epoch seen epoch × (new ≡ closed old)
RefusesEntry epoch before now journal old new disk disk_now need (Full len n) = (len ≡ journal.length) × (n ≡ need) × (journal.limit < len + n) × (new ≡ old) × (disk_now ≡ disk)
RefusesEntry epoch before now journal old new disk disk_now need (NotAJournal at) = ⊥
RefusesEntry epoch before now journal old new disk disk_now need EpochsSpent = ⊥
RefusesEntry epoch before now journal old new disk disk_now need OutOfMemory = ⊥

-- The refusals of a journal that is opened again: a fault, a greater epoch where the list does not follow, bytes that are no journal, or want of memory.
abbrev pub RefusesAgain : (content : Option (List ℕ)) (epoch : Option ℕ) (before now : ℕ) (old : State) → JournalRefusal → Type 0
RefusesAgain content epoch before now old Fault = CountRose before now
RefusesAgain content epoch before now old (Fenced seen) = (epoch ≡ None) ⊎ ((old.follows ≡ false) × IsAbove old.own seen epoch)
RefusesAgain content epoch before now old (Full len n) = ⊥
RefusesAgain content epoch before now old (NotAJournal at) = (e : ℕ) (b : List ℕ) → epoch ≡ Some e → content ≡ Some b → IsNoJournal b at
RefusesAgain content epoch before now old EpochsSpent = ⊥
RefusesAgain content epoch before now old OutOfMemory = ⊤

-- The refusals of a look at the disk's epoch.
abbrev pub RefusesOwning : (epoch : Option ℕ) (before now : ℕ) (old new : State) → JournalRefusal → Type 0
RefusesOwning epoch before now old new Fault = CountRose before now × (new ≡ old)
RefusesOwning epoch before now old new (Fenced seen) = IsAbove old.own seen epoch × (new ≡ closed old)
RefusesOwning epoch before now old new (Full len n) = ⊥
RefusesOwning epoch before now old new (NotAJournal at) = ⊥
RefusesOwning epoch before now old new EpochsSpent = ⊥
RefusesOwning epoch before now old new OutOfMemory = ⊥
