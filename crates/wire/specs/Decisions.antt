-- What reading decides, for private clauses (this product's own).
use Rattle.std.specs.Prelude.{ℕ, ◌+◌, ◌≤◌, ◌≡◌, Bool, List, [], length, Option, Result, Ok, Err, ⊤}
use Rattle.std.specs.Io.KnownBytes.{IsAtEnd}
use Rattle.edge.specs.Connections.{Connection}
use Rattle.wire.specs.Front.{front}
use Rattle.wire.specs.Heads.{Begins, Head, Bad, More}
use Rattle.wire.specs.Held.{HasTaken}
use Rattle.wire.specs.Starts.{IsFound}
use Rattle.wire.specs.declared.decision.Decision.{Decision}
use Rattle.wire.specs.declared.decision.Decision.TheVariants as decision
use Rattle.wire.specs.declared.framed.FoundHead.{FoundHead}
use Rattle.wire.specs.declared.refusal.WireRefusal.{WireRefusal}
use Rattle.wire.specs.declared.refusal.WireRefusal.TheVariants.{BadHead, TooLong, Chunked, ReadFault, CutShort, OutOfMemory}

-- a refusal of bytes alone
abbrev pub IsOfBytes : WireRefusal → Type 0
IsOfBytes BadHead = ⊤
IsOfBytes (TooLong head) = ⊤
IsOfBytes Chunked = ⊤
IsOfBytes ReadFault = ⊥
IsOfBytes (CutShort had) = ⊥
IsOfBytes OutOfMemory = ⊥

-- a head and its whole body
pub record IsReady {M P : Type 0} (IsAt : List ℕ → Head M → Type 0) (AreParts : P → List ℕ → Head M → Type 0) (had : List ℕ) (found : FoundHead P) (count : ℕ) : Type 0 where
  pub head : IsFound IsAt AreParts (front had) found
  pub body : found.body ≡ Ok count
  pub here : found.size + count ≤ length had

-- what was decided over the bytes had, where this is what the source then has left
abbrev pub Decided : {M P E : Type 0} → (List ℕ → Head M → Type 0) → (List ℕ → Type 0) → (P → List ℕ → Head M → Type 0) → List ℕ → Option (List ℕ) → Result (Decision P) E → Type 0
Decided IsAt IsHopeless AreParts had left (Ok (decision.Message found count)) = IsReady IsAt AreParts had found count
Decided IsAt IsHopeless AreParts had left (Ok (decision.Refused refusal)) = Begins IsAt IsHopeless had (Bad refusal) × IsOfBytes refusal
Decided IsAt IsHopeless AreParts had left (Ok decision.Ended) = Begins IsAt IsHopeless had More × IsAtEnd left
Decided IsAt IsHopeless AreParts had left (Err failed) = Begins IsAt IsHopeless had More

-- bytes were taken, none where those held decide
pub record HasFilled (Undecided : List ℕ → Type 0) (failed : Bool) (old now : List ℕ) (left left_now : Option (List ℕ)) (all all_now : Option (List Connection)) : Type 0 where
  pub took : HasTaken failed old now left left_now all all_now
  pub needed : (Undecided old → ⊥) → took.taken ≡ []
