-- What the fields of a head say (RFC 9110 section 5; RFC 9112 sections 5, 6 and 9.3).
use Rattle.std.specs.Prelude.{◌+◌, ◌-◌, ◌*◌, ◌^◌, ◌==◌, ◌&&◌, ◌||◌, nat_le, nat_lt, ℕ, List, [], ◌∷◌, Bool, true, false, length, map, codes, bytes_eq, if◌then◌else◌, Option, Some, None, Result, Ok, Err, option_and_then}
use Rattle.std.specs.Char.{to_ascii_lowercase}
use Rattle.wire.specs.declared.refusal.WireRefusal.{WireRefusal}
use Rattle.wire.specs.declared.refusal.WireRefusal.TheVariants.{BadHead, TooLong, Chunked}

-- a name of a field, and its value without the white space around it
abbrev pub Named : Type 0
Named = List ℕ × List ℕ

-- a text is this word, without regard to the case of its letters
abbrev pub is_word : List ℕ → List ℕ → Bool
is_word word text = bytes_eq (map to_ascii_lowercase text) (map to_ascii_lowercase word)

-- whether a field of this name stands there
abbrev pub has_field : List ℕ → List Named → Bool
has_field name [] = false
has_field name (field ∷ fields) = is_word name field.0 || has_field name fields

-- whether a field of this name stands there whose whole value is this word
abbrev pub has_value : List ℕ → List ℕ → List Named → Bool
has_value name word [] = false
has_value name word (field ∷ fields) = (is_word name field.0 && is_word word field.1) || has_value name word fields

-- the number so far with one more decimal digit, of 64 bits
abbrev pub with_digit : ℕ → ℕ → Option ℕ
with_digit n digit = if nat_le 48 digit && nat_le digit 57 && nat_lt (n * 10 + (digit - 48)) (2 ^ 64) then Some (n * 10 + (digit - 48)) else None

-- the number with these further decimal digits
abbrev pub with_digits : ℕ → List ℕ → Option ℕ
with_digits n [] = Some n
with_digits n (digit ∷ digits) = option_and_then (λ more. with_digits more digits) (with_digit n digit)

-- a length is 1 to 10 decimal digits, which are always of 64 bits
abbrev pub length_of : List ℕ → Option ℕ
length_of value = if nat_le 1 (length value) && nat_le (length value) 10 then with_digits 0 value else None

-- several lengths must be equal
abbrev pub agree : Option ℕ → ℕ → Option (Option ℕ)
agree None n = Some (Some n)
agree (Some m) n = if m == n then Some (Some n) else None

-- the length stated by one field more, where it states one
abbrev pub next_length : Option ℕ → Named → Option (Option ℕ)
next_length had field = if is_word (codes "content-length") field.0 then option_and_then (agree had) (length_of field.1) else Some had

-- none where a length is wrong; else the length that the fields state, if there is one
abbrev pub length_after : Option ℕ → List Named → Option (Option ℕ)
length_after had [] = Some had
length_after had (field ∷ fields) = option_and_then (λ now. length_after now fields) (next_length had field)

-- the length of the body, 0 where none is stated, or why the head is refused: a wrong Content-Length, then Transfer-Encoding, then a body above 1 MiB
abbrev pub judged : Option (Option ℕ) → Bool → Result ℕ WireRefusal
judged None encoded = Err BadHead
judged (Some stated) true = Err Chunked
judged (Some None) false = Ok 0
judged (Some (Some count)) false = if nat_le count 1048576 then Ok count else Err (TooLong false)

-- the length of the body that follows a head with these fields
unfoldable pub body_length : List Named → Result ℕ WireRefusal
body_length fields = judged (length_after None fields) (has_field (codes "transfer-encoding") fields)
