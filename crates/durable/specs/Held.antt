-- That a list in memory and a disk belong together (this product's own).
use Rattle.std.specs.Prelude.{◌≡◌, ◌≤◌, ℕ, List, Option, Some}
use Rattle.journal.specs.Lists.{EachBeginsWith, IsTied}
use Rattle.journal.specs.State.{State as Journal}
use Rattle.durable.specs.State.{State}

-- An open journal is tied to the disk by the list, which begins the list of each image; the disk's epoch is at least the own one.
pub record IsHeld (held : State) (content : Option (List ℕ)) (epoch : Option ℕ) (images : List ℕ → Type 0) (list : List (List ℕ)) : Type 0 where
  pub sound : (journal : Journal) → held.journal ≡ Some journal → IsTied journal content epoch images list
  pub begins : EachBeginsWith epoch images list
  pub begun : (e : ℕ) → epoch ≡ Some e → 1 ≤ e
  pub claimed : (e : ℕ) → epoch ≡ Some e → held.own ≤ e
  pub same : (journal : Journal) (e : ℕ) → held.journal ≡ Some journal → epoch ≡ Some e → journal.epoch ≡ held.own
