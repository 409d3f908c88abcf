-- The fields of a JSON object and what they may hold (TS 29.571, 5.2; TS 29.501, 5.2 on absent attributes).
use Rattle.std.specs.Prelude.{ℕ, ◌^◌, nat_le, Bool, List, [], ◌∷◌, Option, Some, None, Result, Ok, Err, if◌then◌else◌, option_map, option_and_then}
use Rattle.std.specs.Option.{is_some}
use Rattle.serde_json.specs.Data.{Data, null, boolean, number, string, array, object, Items, no_items, item}
use Rattle.serde_json.specs.Find.{get, as_number, as_u64, as_str, as_array, as_object}
use Rattle.units.specs.Names.{spells_name}
use Rattle.moments.specs.Text.{time_of}
use Rattle.units.specs.declared.refusal.JsonRefusal.{JsonRefusal}
use Rattle.units.specs.declared.refusal.JsonRefusal.TheVariants.{Missing, Wrong}

-- a value that is not `null`: a field with `null` counts as absent
abbrev pub unless_null : Option Data → Option Data
unless_null None = None
unless_null (Some null) = None
unless_null (Some (boolean b)) = Some (boolean b)
unless_null (Some (number n)) = Some (number n)
unless_null (Some (string s)) = Some (string s)
unless_null (Some (array ds)) = Some (array ds)
unless_null (Some (object ms)) = Some (object ms)

-- the field of an object under this name; where the value is no object, it has no field
abbrev pub given : List ℕ → Data → Option Data
given name value = unless_null (get name value)

-- whether a value is an object
abbrev pub is_object : Data → Bool
is_object value = is_some (as_object value)

-- a number that is not above a bound
abbrev pub within : ℕ → ℕ → Option ℕ
within most n = if nat_le n most then Some n else None

-- a whole number from 0 to a bound, written in digits alone (RFC 8259, 6)
abbrev pub number_to : ℕ → Data → Option ℕ
number_to most value = option_and_then (within most) (option_and_then as_u64 (as_number value))

-- a number from 0 to 2^32 - 1 (TS 29.571, Uint32)
abbrev pub number_32 : Data → Option ℕ
number_32 value = number_to 4294967295 value

-- a volume in octets, from 0 to 2^60 (TS 29.571, Uint64; the bound is this product's own)
abbrev pub volume : Data → Option ℕ
volume value = number_to (2 ^ 60) value

-- a time whose moment is in range (TS 29.571, DateTime)
abbrev pub time : Data → Option ℕ
time value = option_and_then time_of (as_str value)

-- a text that passes a test
abbrev pub that_passes : (List ℕ → Bool) → List ℕ → Option (List ℕ)
that_passes test text = if test text then Some text else None

-- a text of that kind
abbrev pub text_that : (List ℕ → Bool) → Data → Option (List ℕ)
text_that test value = option_and_then (that_passes test) (as_str value)

-- a name: 1 to 255 bytes of 0x21 to 0x7E without comma and double quote (this product's own)
abbrev pub name : Data → Option (List ℕ)
name value = text_that spells_name value

-- a field that may be absent: None where it is there and wrong
abbrev pub optional : {T : Type 0} → (Data → Option T) → Option Data → Option (Option T)
optional reads None = Some None
optional reads (Some value) = option_map Some (reads value)

-- a field that is there and right
abbrev pub needed : {T : Type 0} → (Data → Option T) → Option Data → Option T
needed reads found = option_and_then reads found

-- an item and the rest, where both are right
abbrev pub joined : {T : Type 0} → Option T → Option (List T) → Option (List T)
joined None rest = None
joined (Some x) None = None
joined (Some x) (Some xs) = Some (x ∷ xs)

-- the items as they read, or None where one is wrong
abbrev pub each : {T : Type 0} → (Data → Option T) → Items → Option (List T)
each reads no_items = Some []
each reads (item value rest) = joined (reads value) (each reads rest)

-- a list of values that are right
abbrev pub list_of : {T : Type 0} → (Data → Option T) → Data → Option (List T)
list_of reads value = option_and_then (each reads) (as_array value)

-- a list that may be absent, which is as if it were empty
abbrev pub or_empty : {T : Type 0} → Option (List T) → List T
or_empty None = []
or_empty (Some xs) = xs

-- ---- the fields of a message, of which the first that is wrong decides

-- what an optional reading tells of a field that has to be there: absent, wrong, or right
abbrev pub required : {T : Type 0} → List ℕ → Option (Option T) → Result T JsonRefusal
required name None = Err (Missing name)
required name (Some None) = Err (Wrong name)
required name (Some (Some x)) = Ok x

-- and of one that may be absent
abbrev pub allowed : {T : Type 0} → List ℕ → Option (Option T) → Result (Option T) JsonRefusal
allowed name None = Ok None
allowed name (Some None) = Err (Wrong name)
allowed name (Some (Some x)) = Ok (Some x)

-- and of one that has to be there in some operations alone
abbrev pub required_if : {T : Type 0} → Bool → List ℕ → Option (Option T) → Result (Option T) JsonRefusal
required_if must name None = if must then Err (Missing name) else Ok None
required_if must name (Some None) = Err (Wrong name)
required_if must name (Some (Some x)) = Ok (Some x)

-- a field, and then what follows it where it is right
abbrev pub after : {A B : Type 0} → Result A JsonRefusal → (A → Result B JsonRefusal) → Result B JsonRefusal
after (Ok x) rest = rest x
after (Err e) rest = Err e
