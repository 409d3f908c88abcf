-- The bytes while an entry is added (this product's own).
use Rattle.std.specs.Prelude.{◌≡◌, ℕ, List, ◌∷◌, ◌++◌}
use Rattle.journal.specs.Bytes.{front}

-- behind the gate, open or not, stands this
pub record Staged (bytes : List ℕ) (list : List (List ℕ)) (behind : List ℕ) : Type 0 where
  pub gate : ℕ
  pub rest : List ℕ
  pub is : bytes ≡ front list ++ gate ∷ (behind ++ rest)
