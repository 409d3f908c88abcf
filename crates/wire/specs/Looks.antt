-- What bytes say of the message that they begin with, for private clauses (this product's own).
use Rattle.std.specs.Prelude.{ℕ, ◌≡◌, false, List, length}
use Rattle.wire.specs.Decisions.{IsOfBytes}
use Rattle.wire.specs.FieldLines.{EndsIn}
use Rattle.wire.specs.Front.{front, is_cut}
use Rattle.wire.specs.Heads.{Begins, Head, Bad}
use Rattle.wire.specs.Starts.{IsFound, IsOpen}
use Rattle.wire.specs.declared.framed.Look.{Look}
use Rattle.wire.specs.declared.framed.Look.TheVariants as look

-- a head at the front, a refusal, or nothing so far and where the bytes end
abbrev pub Looks : {M P : Type 0} → (List ℕ → Head M → Type 0) → (List ℕ → Type 0) → (P → List ℕ → Head M → Type 0) → List ℕ → Look P → Type 0
Looks IsAt IsHopeless AreParts bytes (look.Found found) = IsFound IsAt AreParts (front bytes) found
Looks IsAt IsHopeless AreParts bytes (look.Refused refusal) = Begins IsAt IsHopeless bytes (Bad refusal) × IsOfBytes refusal
Looks IsAt IsHopeless AreParts bytes (look.Open line) = IsOpen IsAt IsHopeless (front bytes) × (is_cut bytes ≡ false) × EndsIn (length bytes) bytes line
