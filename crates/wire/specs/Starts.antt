-- What is found at the front of some bytes (this product's own).
use Rattle.std.specs.Prelude.{ℕ, ◌≡◌, ◌≤◌, ◌++◌, List, length, take, ⊤}
use Rattle.wire.specs.Fields.{body_length}
use Rattle.wire.specs.Heads.{Head}
use Rattle.wire.specs.declared.framed.FoundHead.{FoundHead}
use Rattle.wire.specs.declared.framed.Start.{Start}
use Rattle.wire.specs.declared.framed.Start.TheVariants as start

-- these bytes begin with a head, which stands wherever its own bytes stand first; this is its length, the length of the body that follows or why it is refused, and where its parts lie in it
pub record IsFound {M P : Type 0} (IsAt : List ℕ → Head M → Type 0) (AreParts : P → List ℕ → Head M → Type 0) (near : List ℕ) (found : FoundHead P) : Type 0 where
  pub head : Head M
  pub stands : (more : List ℕ) → IsAt (take found.size near ++ more) head
  pub within : found.size ≤ length near
  pub all : found.size ≡ head.size
  pub follows : found.body ≡ body_length head.fields
  pub parts_are : AreParts found.parts (take found.size near) head

-- no head stands there, and more bytes could make one
abbrev pub IsOpen : {M : Type 0} → (List ℕ → Head M → Type 0) → (List ℕ → Type 0) → List ℕ → Type 0
IsOpen {M} IsAt IsHopeless near = ((head : Head M) → IsAt near head → ⊥) × (IsHopeless near → ⊥)

-- what bytes begin with: a head, or none and whether more bytes could make one
abbrev pub Starts : {M P : Type 0} → (List ℕ → Head M → Type 0) → (List ℕ → Type 0) → (P → List ℕ → Head M → Type 0) → List ℕ → Start P → Type 0
Starts IsAt IsHopeless AreParts near (start.Found found) = IsFound IsAt AreParts near found
Starts IsAt IsHopeless AreParts near start.Open = IsOpen IsAt IsHopeless near
Starts {M} IsAt IsHopeless AreParts near start.Hopeless = ((head : Head M) → IsAt near head → ⊥) × IsHopeless near

-- where a head was found it is one
abbrev pub FindsHead : {M P : Type 0} → (List ℕ → Head M → Type 0) → (P → List ℕ → Head M → Type 0) → List ℕ → Start P → Type 0
FindsHead IsAt AreParts near (start.Found found) = IsFound IsAt AreParts near found
FindsHead IsAt AreParts near start.Open = ⊤
FindsHead IsAt AreParts near start.Hopeless = ⊤
