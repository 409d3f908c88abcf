-- The one spelling of an element with definite lengths and the fewest octets (X.690 10.1).
use Rattle.std.specs.Prelude.{ℕ, ◌+◌, ◌-◌, ◌*◌, ◌/◌, ◌%◌, ◌^◌, ◌<◌, ◌≤◌, Bool, true, false, ◌&&◌, ◌==◌, ◌≡◌, nat_lt, List, [], ◌∷◌, ◌++◌, length, drop, if◌then◌else◌}
use Rattle.std.specs.Int.{w64, to_be_bytes}
use Rattle.ber.specs.declared.tag.Tag.{Tag}
use Rattle.ber.specs.Element.{Element, primitive, constructed, Elements, none, more, tag_is}

-- How many octets a number of 64 bits takes, at least one (X.690 10.1).
abbrev pub octet_count : ℕ → ℕ
octet_count n = if nat_lt n (2 ^ 8) then 1 else (if nat_lt n (2 ^ 16) then 2 else (if nat_lt n (2 ^ 24) then 3 else (if nat_lt n (2 ^ 32) then 4
    else (if nat_lt n (2 ^ 40) then 5 else (if nat_lt n (2 ^ 48) then 6 else (if nat_lt n (2 ^ 56) then 7 else 8))))))

-- The shortest octets of a definite length (X.690 8.1.3.3 to 8.1.3.5, 10.1).
abbrev pub length_octets : ℕ → List ℕ
length_octets n = if nat_lt n 128 then n ∷ [] else (128 + octet_count n) ∷ drop (8 - octet_count n) (to_be_bytes w64 n)

-- A number below 2 ^ 32 in base 128, without a leading 80 (X.690 8.1.2.4.2).
abbrev pub high_octets : ℕ → List ℕ
high_octets n = if nat_lt n (2 ^ 7) then n ∷ []
    else (if nat_lt n (2 ^ 14) then (128 + n / 2 ^ 7) ∷ n % 128 ∷ []
    else (if nat_lt n (2 ^ 21) then (128 + n / 2 ^ 14) ∷ (128 + n / 2 ^ 7 % 128) ∷ n % 128 ∷ []
    else (if nat_lt n (2 ^ 28) then (128 + n / 2 ^ 21) ∷ (128 + n / 2 ^ 14 % 128) ∷ (128 + n / 2 ^ 7 % 128) ∷ n % 128 ∷ []
    else (128 + n / 2 ^ 28) ∷ (128 + n / 2 ^ 21 % 128) ∷ (128 + n / 2 ^ 14 % 128) ∷ (128 + n / 2 ^ 7 % 128) ∷ n % 128 ∷ [])))

-- Bit 6 of the first octet (X.690 8.1.2.5).
abbrev pub form_bit : Bool → ℕ
form_bit true = 32
form_bit false = 0

-- The identifier octets; of a class above 3 its last two bits are taken (X.690 8.1.2).
abbrev pub identifier : Tag → List ℕ
identifier t = if nat_lt t.number 31 then (t.class % 4 * 64 + form_bit t.constructed + t.number) ∷ []
    else (t.class % 4 * 64 + form_bit t.constructed + 31) ∷ high_octets t.number

abbrev mutual
  -- Length and contents (X.690 8.1.3, 8.1.4).
  pub inside_written : Element → List ℕ
  inside_written (primitive class number contents) = length_octets (length contents) ++ contents
  inside_written (constructed class number inner) = length_octets (length (written_all inner)) ++ written_all inner

  -- Elements one after the other (X.690 8.1.4).
  pub written_all : Elements → List ℕ
  written_all none = []
  written_all (more e es) = (identifier (tag_is e) ++ inside_written e) ++ written_all es

-- The one spelling with definite shortest lengths (X.690 8.1.1, 10.1).
abbrev pub written : Element → List ℕ
written e = identifier (tag_is e) ++ inside_written e

-- The octets of elements, and others behind them (X.690 8.1.4).
abbrev pub onto : Elements → List ℕ → List ℕ
onto none behind = behind
onto (more e es) behind = written e ++ onto es behind

abbrev mutual
  -- How many contents octets each constructed element has, one around others before those (X.690 8.1.3).
  pub lengths_in : Element → List ℕ
  lengths_in (primitive class number contents) = []
  lengths_in (constructed class number inner) = length (written_all inner) ∷ lengths_all inner

  -- The same of elements one after the other (X.690 8.1.3).
  pub lengths_all : Elements → List ℕ
  lengths_all none = []
  lengths_all (more e es) = lengths_in e ++ lengths_all es

-- A class of 0 to 3, a number below 2 ^ 32, and not universal 0 (X.690 8.1.2, 8.1.5; the bound is this product's own).
abbrev pub IsTag : Tag → Type 0
IsTag t = (t.class < 4) × (t.number < 2 ^ 32) × ((t.class == 0) && (t.number == 0) ≡ false)

abbrev mutual
  -- An element whose tags are tags, with at most so many elements within each other (this product's own).
  pub IsBounded : ℕ → Element → Type 0
  IsBounded levels (primitive class number contents) = IsTag (record { class = class; constructed = false; number = number }) × (1 ≤ levels)
  IsBounded levels (constructed class number inner) = IsTag (record { class = class; constructed = true; number = number }) × (1 ≤ levels) × AreBounded (levels - 1) inner

  -- The same of each of a row (this product's own).
  pub AreBounded : ℕ → Elements → Type 0
  AreBounded levels none = Unit {0}
  AreBounded levels (more e es) = IsBounded levels e × AreBounded levels es
