-- Octets put into a buffer at a place.
use Rattle.std.specs.Prelude.{ℕ, ◌+◌, ◌≡◌, List, ◌++◌, length, take, drop}

-- After those before a place of the old buffer the new one has these octets, up to an end, and is as long (this product's own).
abbrev pub IsPlaced : List ℕ → List ℕ → ℕ → List ℕ → ℕ → Type 0
IsPlaced old new at octets end = (take end new ≡ take at old ++ octets) × (end ≡ at + length octets) × (length new ≡ length old)

-- The same, and those from the end on are as they were (this product's own).
abbrev pub IsPut : List ℕ → List ℕ → ℕ → List ℕ → ℕ → Type 0
IsPut old new at octets end = (take end new ≡ take at old ++ octets) × (end ≡ at + length octets) × (length new ≡ length old) × (drop end new ≡ drop end old)
