-- The journal's refusals are those of a store.
use Rattle.std.proofs.Common.{◌≡◌, ◌≤◌, ◌<◌, ◌+◌, ℕ, List, Bool, Option, Some, length, subst, sym}
use Rattle.edge.specs.Disk.{Room, KeepsRoom}
use Rattle.journal.specs.Refusals.{RefusesStart}
use Rattle.journal.specs.State.{State as Journal}
use Rattle.journal.specs.declared.refusal.JournalRefusal.{JournalRefusal}
use Rattle.journal.specs.declared.refusal.JournalRefusal.TheVariants.{Fault, Fenced, Full, NotAJournal, EpochsSpent, OutOfMemory}
use Rattle.durable.specs.Refusals.{RefusesAgain, RefusesEntry}
use Rattle.durable.specs.State.{State as Durable}
use Rattle.chf_store.specs.declared.refusal.StoreRefusal.{StoreRefusal}
use Rattle.chf_store.specs.Stored.{Store}
use Rattle.chf_store.specs.Refusals.{handed_on, RefusesKeeping, RefusesOpening, RefusesSettling}

pub opening : (content : Option (List ℕ)) (epoch : Option ℕ) (claim : Bool) (before now : ℕ) (r : JournalRefusal)
    → RefusesStart content epoch claim before now r → RefusesOpening content epoch claim before now (handed_on r)
opening content epoch claim before now Fault h = h
opening content epoch claim before now (Fenced seen) h = h
opening content epoch claim before now (Full len need) h = h
opening content epoch claim before now (NotAJournal at) h = h
opening content epoch claim before now EpochsSpent h = h
opening content epoch claim before now OutOfMemory h = h

pub settling : (content : Option (List ℕ)) (epoch : Option ℕ) (before now : ℕ) (old : Durable) (r : JournalRefusal)
    → RefusesAgain content epoch before now old r → RefusesSettling content epoch before now old (handed_on r)
settling content epoch before now old Fault h = h
settling content epoch before now old (Fenced seen) h = h
settling content epoch before now old (Full len need) h = h
settling content epoch before now old (NotAJournal at) h = h
settling content epoch before now old EpochsSpent h = h
settling content epoch before now old OutOfMemory h = h

pub keeping : {D : Type 0} (epoch : Option ℕ) (before now : ℕ) (j : Journal) (old new : Durable) (disk disk_now : D) (payload : List ℕ) (r : JournalRefusal)
    → old.journal ≡ Some j → RefusesEntry epoch before now j old new disk disk_now (length payload + 5) r
    → RefusesKeeping epoch before now old new disk disk_now payload (handed_on r)
keeping epoch before now j old new disk disk_now payload Fault is h = (j, is, h)
keeping epoch before now j old new disk disk_now payload (Fenced seen) is h = (j, is, h)
keeping epoch before now j old new disk disk_now payload (Full len need) is h = (j, is, h)
keeping epoch before now j old new disk disk_now payload (NotAJournal at) is h = h
keeping epoch before now j old new disk disk_now payload EpochsSpent is h = h
keeping epoch before now j old new disk disk_now payload OutOfMemory is h = h

-- the same of another list and payload that are the same
pub keeping_same : {D : Type 0} (epoch : Option ℕ) (before now : ℕ) (a b new : Durable) (disk disk_now : D) (p q : List ℕ) (r : StoreRefusal) → a ≡ b → p ≡ q
    → RefusesKeeping epoch before now a new disk disk_now p r → RefusesKeeping epoch before now b new disk disk_now q r
keeping_same epoch before now a b new disk disk_now p q r e f h =
    subst (λ (t : Durable). RefusesKeeping epoch before now t new disk disk_now q r) e (subst (λ (x : List ℕ). RefusesKeeping epoch before now a new disk disk_now x r) f h)

pub room_same : (before now : ℕ) (old new : Option Room) (a b : Store) → a ≡ b → KeepsRoom before now old new (λ r. (a.durable.limit ≤ r.size) × (r.ranges < 16)) 1
    → KeepsRoom before now old new (λ r. (b.durable.limit ≤ r.size) × (r.ranges < 16)) 1
room_same before now old new a b e h = subst (λ (t : Store). KeepsRoom before now old new (λ r. (t.durable.limit ≤ r.size) × (r.ranges < 16)) 1) e h

-- handed on, of another list that is the same
pub settling_by : (content : Option (List ℕ)) (epoch : Option ℕ) (before now : ℕ) (a b : Durable) (r : JournalRefusal) (s : StoreRefusal) → s ≡ handed_on r → a ≡ b
    → RefusesAgain content epoch before now a r → RefusesSettling content epoch before now b s
settling_by content epoch before now a b r s is same h =
    subst (λ (t : StoreRefusal). RefusesSettling content epoch before now b t) (sym is) (settling content epoch before now b r (subst (λ (d : Durable). RefusesAgain content epoch before now d r) same h))

pub opening_by : (content : Option (List ℕ)) (epoch : Option ℕ) (claim : Bool) (before now : ℕ) (r : JournalRefusal) (s : StoreRefusal) → s ≡ handed_on r
    → RefusesStart content epoch claim before now r → RefusesOpening content epoch claim before now s
opening_by content epoch claim before now r s is h = subst (λ (t : StoreRefusal). RefusesOpening content epoch claim before now t) (sym is) (opening content epoch claim before now r h)
