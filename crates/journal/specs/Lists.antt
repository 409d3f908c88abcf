-- The lists that the images of a disk stand for; no word here is about bytes to those who use it (this product's own).
use Rattle.std.specs.Prelude.{◌≡◌, ◌≤◌, ◌+◌, ◌⊎◌, ℕ, List, [], ◌∷◌, ◌++◌, length, take, Option, Some}
use Rattle.journal.specs.Bytes.{front, Spells, StandsFor}
use Rattle.journal.specs.State.{State}

-- some image stands for this list
abbrev pub MayStandFor : Option ℕ → (List ℕ → Type 0) → List (List ℕ) → Type 0
MayStandFor epoch images list = (c : List ℕ) × images c × StandsFor epoch c list

-- each image stands for a list that has P
abbrev pub EachStandsFor : Option ℕ → (List ℕ → Type 0) → (List (List ℕ) → Type 0) → Type 0
EachStandsFor epoch images P = (c : List ℕ) → images c → (list : List (List ℕ)) × StandsFor epoch c list × P list

-- Each image stands for a list that an image stood for before, followed by a prefix of these entries, of at least so many of them.
pub record Extends (epoch : Option ℕ) (images : List ℕ → Type 0) (epoch_now : Option ℕ) (images_now : List ℕ → Type 0) (added : List (List ℕ)) (least : ℕ) : Type 0 where
  pub each : EachStandsFor epoch_now images_now (λ list. (before : List (List ℕ)) × (n : ℕ) × (least ≤ n) × MayStandFor epoch images before × (list ≡ before ++ take n added))

-- Unless the disk's epoch is above the journal's, the disk and each image stand for this list, and it ends where the journal does.
pub record IsTied (journal : State) (content : Option (List ℕ)) (epoch : Option ℕ) (images : List ℕ → Type 0) (list : List (List ℕ)) : Type 0 where
  pub ends : length (front list) + 1 ≡ journal.length
  pub claimed : (e : ℕ) → epoch ≡ Some e → 1 ≤ e
  pub disk : (e : ℕ) (b : List ℕ) → epoch ≡ Some e → e ≤ journal.epoch → content ≡ Some b → Spells b list
  pub each : (e : ℕ) (c : List ℕ) → epoch ≡ Some e → e ≤ journal.epoch → images c → Spells c list

-- each image stands for a list that begins with this one
abbrev pub EachBeginsWith : Option ℕ → (List ℕ → Type 0) → List (List ℕ) → Type 0
EachBeginsWith epoch images list = EachStandsFor epoch images (λ l. (more : List (List ℕ)) × (l ≡ list ++ more))

-- Each image stands for a list that an image stood for before, with entries behind it of which Added tells.
pub record Grows (epoch : Option ℕ) (images : List ℕ → Type 0) (epoch_now : Option ℕ) (images_now : List ℕ → Type 0) (Added : List (List ℕ) → List (List ℕ) → Type 0) : Type 0 where
  pub each : EachStandsFor epoch_now images_now (λ list. (before : List (List ℕ)) × (more : List (List ℕ)) × MayStandFor epoch images before × Added before more × (list ≡ before ++ more))

-- no entry comes behind any list
abbrev pub AddsNothing : List (List ℕ) → List (List ℕ) → Type 0
AddsNothing before more = more ≡ []

-- none, or this entry behind this list
abbrev pub MayAdd : List (List ℕ) → List ℕ → List (List ℕ) → List (List ℕ) → Type 0
MayAdd list entry before more = (more ≡ []) ⊎ ((more ≡ entry ∷ []) × (before ≡ list))
