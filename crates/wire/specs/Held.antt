-- What a connection's reader holds, and what a call on it reads (RFC 9112 section 9.3; the bounds are this product's own).
use Rattle.std.specs.Prelude.{ℕ, ◌≡◌, ◌≢◌, Bool, true, false, List, [], ◌++◌, length, drop, Option, Some, None, Result, Ok, Err, option_map}
use Rattle.std.specs.Io.KnownBytes.{Consumes, IsAtEnd}
use Rattle.edge.specs.Connections.{Connection, after_read}
use Rattle.wire.specs.Heads.{Look, Whole, Bad, More}
use Rattle.wire.specs.declared.refusal.WireRefusal.{WireRefusal}
use Rattle.wire.specs.declared.refusal.WireRefusal.TheVariants.{BadHead, TooLong, Chunked, ReadFault, CutShort, OutOfMemory}

-- the bytes that were read and not yet used, and whether a message was refused
pub record Held : Type 0 where
  pub bytes : List ℕ
  pub refused : Bool

-- whether a read failed
abbrev pub is_read_fault : {T : Type 0} → Result T WireRefusal → Bool
is_read_fault (Ok message) = false
is_read_fault (Err ReadFault) = true
is_read_fault (Err _) = false

-- a refusal of these bytes, whatever follows
abbrev pub IsRefusedFor : {M : Type 0} → (List ℕ → Look M → Type 0) → List ℕ → WireRefusal → Held → Type 0
IsRefusedFor Looks had refusal now = Looks had (Bad refusal) × (now ≡ record { bytes = had; refused = true })

-- what a call answers and leaves, where these are the bytes that it had in the end and this is what the source then has left
abbrev pub Reads : {M : Type 0} → (List ℕ → Look M → Type 0) → List ℕ → Option (List ℕ) → Result M WireRefusal → Held → Type 0
Reads Looks had left (Ok message) now = (size : ℕ) × Looks had (Whole message size) × (now ≡ record { bytes = drop size had; refused = false })
Reads Looks had left (Err BadHead) now = IsRefusedFor Looks had BadHead now
Reads Looks had left (Err (TooLong head)) now = IsRefusedFor Looks had (TooLong head) now
Reads Looks had left (Err Chunked) now = IsRefusedFor Looks had Chunked now
Reads Looks had left (Err ReadFault) now = Looks had More × (now ≡ record { bytes = had; refused = true })
Reads Looks had left (Err (CutShort count)) now = Looks had More × (count ≡ length had) × IsAtEnd left × (now ≡ record { bytes = had; refused = true })
Reads {M} Looks had left (Err OutOfMemory) now = ((message : M) × (size : ℕ) × Looks had (Whole message size)) × (now ≡ record { bytes = had; refused = false })

-- the same where an end between messages is no refusal
abbrev pub ReadsOrEnds : {M : Type 0} → (List ℕ → Look M → Type 0) → List ℕ → Option (List ℕ) → Result (Option M) WireRefusal → Held → Type 0
ReadsOrEnds Looks had left (Ok (Some message)) now = Reads Looks had left (Ok message) now
ReadsOrEnds Looks had left (Ok None) now = (had ≡ []) × IsAtEnd left × (now ≡ record { bytes = []; refused = false })
ReadsOrEnds Looks had left (Err refusal) now = Reads Looks had left (Err refusal) now × (refusal ≢ CutShort 0)

-- what was refused before stays so
abbrev pub UnlessRefused : {T : Type 0} → Bool → Held → List ℕ → Result T WireRefusal → Held → Type 0 → Type 0
UnlessRefused true old taken result now Reading = (result ≡ Err BadHead) × (taken ≡ []) × (now ≡ old)
UnlessRefused false old taken result now Reading = Reading

-- one call: the bytes that it took from the source, none where those held decide, and what it made of them and of those held
pub record HasRead {T : Type 0} (Reading : List ℕ → Option (List ℕ) → Result T WireRefusal → Held → Type 0) (Undecided : List ℕ → Type 0) (old now : Held) (result : Result T WireRefusal) (left left_now : Option (List ℕ)) (all all_now : Option (List Connection)) : Type 0 where
  pub taken : List ℕ
  pub source : Consumes left left_now taken
  pub connections : all_now ≡ option_map (after_read taken (is_read_fault result)) all
  pub reads : UnlessRefused old.refused old taken result now (Reading (old.bytes ++ taken) left_now result now)
  pub needed : (Undecided old.bytes → ⊥) → taken ≡ []

-- the same told of the whole stream, what was held and then what the source has left: however it was cut into reads
abbrev pub AnswersStream : {M : Type 0} → (List ℕ → Look M → Type 0) → List ℕ → List ℕ → Result M WireRefusal → Type 0
AnswersStream Looks stream rest (Ok message) = (size : ℕ) × Looks stream (Whole message size) × (rest ≡ drop size stream)
AnswersStream Looks stream rest (Err BadHead) = Looks stream (Bad BadHead)
AnswersStream Looks stream rest (Err (TooLong head)) = Looks stream (Bad (TooLong head))
AnswersStream Looks stream rest (Err Chunked) = Looks stream (Bad Chunked)
AnswersStream Looks stream rest (Err ReadFault) = rest ≡ stream
AnswersStream Looks stream rest (Err (CutShort count)) = Looks stream More × (count ≡ length stream)
AnswersStream {M} Looks stream rest (Err OutOfMemory) = ((message : M) × (size : ℕ) × Looks stream (Whole message size)) × (rest ≡ stream)

-- the same where an end between messages is no refusal
abbrev pub AnswersOrEnds : {M : Type 0} → (List ℕ → Look M → Type 0) → List ℕ → List ℕ → Result (Option M) WireRefusal → Type 0
AnswersOrEnds Looks stream rest (Ok (Some message)) = AnswersStream Looks stream rest (Ok message)
AnswersOrEnds Looks stream rest (Ok None) = stream ≡ []
AnswersOrEnds Looks stream rest (Err refusal) = AnswersStream Looks stream rest (Err refusal)

-- some bytes were taken from the source to those held
pub record HasTaken (failed : Bool) (old now : List ℕ) (left left_now : Option (List ℕ)) (all all_now : Option (List Connection)) : Type 0 where
  pub taken : List ℕ
  pub source : Consumes left left_now taken
  pub connections : all_now ≡ option_map (after_read taken failed) all
  pub had : now ≡ old ++ taken
