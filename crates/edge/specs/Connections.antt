-- What a device that tells says of its connections and openings (this product's own).
use Rattle.std.specs.Prelude.{ℕ, ◌≡◌, Bool, true, false, ◌||◌, ⊤, List, [], ◌∷◌, ◌++◌, length, take, drop, Option, Result, Ok, Err, Some, None}

-- one connection: to whom, the bytes read, left to read and written, and whether a read and whether a write on it failed
pub record Connection : Type 0 where
  pub peer : List ℕ
  pub read : List ℕ
  pub left : List ℕ
  pub written : List ℕ
  pub read_failed : Bool
  pub write_failed : Bool

-- whether a door is closed, how often a link was asked to connect, failed ones too, and the peer of the latest connect
pub record Openings : Type 0 where
  pub closed : Option Bool
  pub connects : Option ℕ
  pub latest_peer : Option (List ℕ)

-- the openings of a device that tells nothing of them
abbrev pub untold : Openings
untold = record { closed = None; connects = None; latest_peer = None }

-- the bytes that a read put into a buffer, none where it failed
abbrev pub bytes_read : {E : Type 0} → Result ℕ E → List ℕ → List ℕ
bytes_read (Ok count) into = take count into
bytes_read (Err failed) into = []

-- the bytes that a write took of these
abbrev pub bytes_taken : {E : Type 0} → Result ℕ E → List ℕ → List ℕ
bytes_taken (Ok count) bytes = take count bytes
bytes_taken (Err failed) bytes = []

-- whether a call failed
abbrev pub has_failed : {T E : Type 0} → Result T E → Bool
has_failed (Ok value) = false
has_failed (Err failed) = true

-- the connections, of which the present one is the first, after bytes were read from the present one, or a read on it failed
abbrev pub after_read : List ℕ → Bool → List Connection → List Connection
after_read bytes failed [] = []
after_read bytes failed (present ∷ earlier) =
    record present { read = present.read ++ bytes; left = drop (length bytes) present.left; read_failed = present.read_failed || failed } ∷ earlier

-- the same after bytes were written to the present one, or a write on it failed
abbrev pub after_write : List ℕ → Bool → List Connection → List Connection
after_write bytes failed [] = []
after_write bytes failed (present ∷ earlier) =
    record present { written = present.written ++ bytes; write_failed = present.write_failed || failed } ∷ earlier

-- the bytes of the present connection, the first of these, that are left to read, and those written
abbrev pub left_of : List Connection → Option (List ℕ)
left_of [] = None
left_of (present ∷ earlier) = Some present.left

-- what was written on the present connection
abbrev pub written_of : List Connection → Option (List ℕ)
written_of [] = None
written_of (present ∷ earlier) = Some present.written

-- where the connections are told, what is told of the present one is told of the first of them
abbrev pub AgreesOnPresent : Option (List Connection) → Option (List ℕ) → Option (List ℕ) → Type 0
AgreesOnPresent None left written = ⊤
AgreesOnPresent (Some connections) left written = (left ≡ left_of connections) × (written ≡ written_of connections)
