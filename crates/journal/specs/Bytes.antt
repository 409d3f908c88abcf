-- The bytes of a journal, and the list of payloads that they stand for (this product's own).
use Rattle.std.specs.Prelude.{◌≡◌, ◌≢◌, ◌≤◌, ◌+◌, ◌^◌, ℕ, zero, suc, List, [], ◌∷◌, ◌++◌, length, Option, None, Some}
use Rattle.std.specs.Int.{w32, to_be_bytes}

-- CHARGING-JRNL-1 and a line feed
abbrev pub header : List ℕ
header = 67 ∷ 72 ∷ 65 ∷ 82 ∷ 71 ∷ 73 ∷ 78 ∷ 71 ∷ 45 ∷ 74 ∷ 82 ∷ 78 ∷ 76 ∷ 45 ∷ 49 ∷ 10 ∷ []

-- what follows a gate: four bytes of length, and the payload
abbrev pub sized : List ℕ → List ℕ
sized payload = to_be_bytes w32 (length payload) ++ payload

-- entries with open gates
abbrev pub entries : List (List ℕ) → List ℕ
entries [] = []
entries (payload ∷ payloads) = 1 ∷ sized payload ++ entries payloads

-- the bytes before the closed gate
unfoldable pub front : List (List ℕ) → List ℕ
front payloads = header ++ entries payloads

-- The bytes are the header, these payloads, and a gate that is not open, whatever follows, all within 2^30 bytes.
pub record Spells (bytes : List ℕ) (payloads : List (List ℕ)) : Type 0 where
  pub gate : ℕ
  pub closed : gate ≢ 1
  pub rest : List ℕ
  pub is : bytes ≡ front payloads ++ gate ∷ rest
  pub within : length (front payloads) + 1 ≤ 2 ^ 30

-- Bytes under an epoch stand for these payloads: none where the epoch is 0.
abbrev pub StandsFor : Option ℕ → List ℕ → List (List ℕ) → Type 0
StandsFor None bytes payloads = ⊥
StandsFor (Some zero) bytes payloads = payloads ≡ []
StandsFor (Some (suc e)) bytes payloads = Spells bytes payloads
