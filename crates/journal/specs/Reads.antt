-- What is no journal (this product's own).
use Rattle.std.specs.Prelude.{◌≡◌, ◌≢◌, ◌<◌, ◌≤◌, ◌+◌, ◌^◌, ◌⊎◌, ℕ, min, List, ◌∷◌, ◌++◌, length, get_or, take, drop}
use Rattle.std.specs.Int.{w32, from_be_bytes, to_be_bytes}
use Rattle.journal.specs.Bytes.{header, front}
use Rattle.journal.specs.declared.entries.Head.{Head}

-- behind entries an open gate stands here, whose entry, with the gate after it, runs past the bytes or past 2^30 of them
pub record RunsPast (bytes : List ℕ) (at : ℕ) : Type 0 where
  pub list : List (List ℕ)
  pub rest : List ℕ
  pub is : bytes ≡ front list ++ 1 ∷ rest
  pub here : at ≡ length (front list)
  pub within : at < 2 ^ 30
  pub past : min (length bytes) (2 ^ 30) < at + 6 + from_be_bytes w32 (take 4 rest)

-- the first 16 bytes are not the header, or nothing follows them, or an entry runs past the end
abbrev pub IsNoJournal : List ℕ → ℕ → Type 0
IsNoJournal bytes at = ((at ≡ 0) × (take 16 bytes ≢ header)) ⊎ ((at ≡ 16) × (bytes ≡ header)) ⊎ RunsPast bytes at

-- the gate at this place, and the length behind it, where it is there
pub record IsHeadAt (bytes : List ℕ) (at : ℕ) (head : Head) : Type 0 where
  pub gate : head.gate ≡ get_or bytes at 0
  pub size : at + 5 ≤ length bytes → to_be_bytes w32 head.size ≡ take 4 (drop (at + 1) bytes)
