-- What bytes begin with, for requests and for responses: a message, what no more bytes make one, or neither so far (RFC 9112; the bounds and their order are this product's own).
use Rattle.std.specs.Prelude.{ℕ, ◌+◌, ◌≡◌, ◌≢◌, ◌++◌, ◌≤◌, ◌<◌, ◌⊎◌, true, false, List, [], length, take, drop, Ok, Err}
use Rattle.wire.specs.Front.{front, is_cut}
use Rattle.wire.specs.Fields.{Named, body_length}
use Rattle.wire.specs.declared.refusal.WireRefusal.{WireRefusal}
use Rattle.wire.specs.declared.refusal.WireRefusal.TheVariants.{BadHead, TooLong, Chunked, ReadFault, CutShort, OutOfMemory}

-- a head: how many bytes it has, its fields, and the message that it is with a body
pub record Head (M : Type 0) : Type 0 where
  pub size : ℕ
  pub fields : List Named
  pub message : List ℕ → M

-- a whole message of so many bytes, bytes that no more bytes make a message and why, or neither so far
pub data Look (M : Type 0) : Type 0 where
  Whole : M → ℕ → Look M
  Bad : WireRefusal → Look M
  More : Look M

-- no head stands at the front
abbrev pub HasNone : {M : Type 0} → (List ℕ → Head M → Type 0) → List ℕ → Type 0
HasNone {M} IsAt bytes = (head : Head M) → IsAt (front bytes) head → ⊥

-- a whole message: its head at the front, then its body
pub record IsWhole {M : Type 0} (IsAt : List ℕ → Head M → Type 0) (bytes : List ℕ) (message : M) (size : ℕ) : Type 0 where
  pub head : Head M
  pub stands : IsAt (front bytes) head
  pub count : ℕ
  pub body : body_length head.fields ≡ Ok count
  pub here : head.size + count ≤ length bytes
  pub all : size ≡ head.size + count
  pub is : message ≡ head.message (take count (drop head.size bytes))

-- a head at the front whose body has not all come
pub record IsPart {M : Type 0} (IsAt : List ℕ → Head M → Type 0) (bytes : List ℕ) : Type 0 where
  pub head : Head M
  pub stands : IsAt (front bytes) head
  pub count : ℕ
  pub body : body_length head.fields ≡ Ok count
  pub lacks : length bytes < head.size + count

-- why bytes without a head at their front are refused: no more bytes make one; else the front is cut
abbrev pub RefusesFront : (List ℕ → Type 0) → List ℕ → WireRefusal → Type 0
RefusesFront IsHopeless bytes BadHead = IsHopeless (front bytes)
RefusesFront IsHopeless bytes (TooLong head) = (head ≡ true) × (is_cut bytes ≡ true) × (IsHopeless (front bytes) → ⊥)
RefusesFront IsHopeless bytes Chunked = ⊥
RefusesFront IsHopeless bytes ReadFault = ⊥
RefusesFront IsHopeless bytes (CutShort had) = ⊥
RefusesFront IsHopeless bytes OutOfMemory = ⊥

-- what bytes begin with, by which heads stand at a front and which fronts no more bytes make a head
unfoldable pub Begins : {M : Type 0} → (List ℕ → Head M → Type 0) → (List ℕ → Type 0) → List ℕ → Look M → Type 0
Begins IsAt IsHopeless bytes (Whole message size) = IsWhole IsAt bytes message size
Begins {M} IsAt IsHopeless bytes (Bad refusal) =
    ((head : Head M) × IsAt (front bytes) head × (body_length head.fields ≡ Err refusal)) ⊎ (HasNone IsAt bytes × RefusesFront IsHopeless bytes refusal)
Begins IsAt IsHopeless bytes More = IsPart IsAt bytes ⊎ (HasNone IsAt bytes × (is_cut bytes ≡ false) × (IsHopeless (front bytes) → ⊥))

-- what is asked of heads: at most one stands at a front, within it, and stays whatever follows; a hopeless front has none and stays hopeless; no bytes at all are not hopeless
pub record AreHeads {M : Type 0} (IsAt : List ℕ → Head M → Type 0) (IsHopeless : List ℕ → Type 0) : Type 0 where
  pub once : (bytes : List ℕ) (a b : Head M) → IsAt bytes a → IsAt bytes b → a ≡ b
  pub within : (bytes : List ℕ) (a : Head M) → IsAt bytes a → (0 < a.size) × (a.size ≤ length bytes)
  pub stays : (bytes more : List ℕ) (a : Head M) → IsAt bytes a → IsAt (bytes ++ more) a
  pub none : (bytes : List ℕ) (a : Head M) → IsHopeless bytes → IsAt bytes a → ⊥
  pub hopeless : (bytes more : List ℕ) → IsHopeless bytes → IsHopeless (bytes ++ more)
  pub nothing : IsHopeless [] → ⊥

-- bytes begin with one thing at most, and what decides decides whatever follows; a whole message is within its bytes, and bytes that decide nothing are fewer than the longest message
pub record Decides {M : Type 0} (Looks : List ℕ → Look M → Type 0) : Type 0 where
  pub once : (bytes : List ℕ) (a b : Look M) → Looks bytes a → Looks bytes b → a ≡ b
  pub stays : (bytes more : List ℕ) (found : Look M) → found ≢ More → Looks bytes found → Looks (bytes ++ more) found
  pub size : (bytes : List ℕ) (message : M) (size : ℕ) → Looks bytes (Whole message size) → (0 < size) × (size ≤ length bytes)
  pub short : (bytes : List ℕ) → Looks bytes More → length bytes < 16384 + 1048576
  pub nothing : Looks [] More
