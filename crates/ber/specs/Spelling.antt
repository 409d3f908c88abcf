-- Which octets spell an element (X.690 8.1), by cases on the element, with no reader in it.
use Rattle.std.specs.Prelude.{◌≡◌, ◌≢◌, ℕ, ◌+◌, ◌-◌, ◌*◌, ◌/◌, ◌%◌, ◌^◌, ◌<◌, ◌≤◌, ◌⊎◌, Bool, false, ◌&&◌, ◌==◌, List, [], ◌∷◌, ◌++◌, length}
use Rattle.ber.specs.declared.tag.Tag.{Tag}
use Rattle.ber.specs.Element.{Element, primitive, constructed, Elements, none, more, tag_is}

-- The tag of a first octet, which has the class in bits 8 and 7 and the form in bit 6, and of a number (X.690 8.1.2.2 to 8.1.2.5).
abbrev pub tag_of : ℕ → ℕ → Tag
tag_of first number = record { class = first / 64; constructed = first / 32 % 2 == 1; number = number }

-- Whether a list begins with an octet (this product's own).
abbrev pub starts_with : ℕ → List ℕ → Bool
starts_with n [] = false
starts_with n (b ∷ bs) = b == n

-- Base 128, the most significant digit first, behind the number n: each octet but the last has bit 8 (X.690 8.1.2.4.2).
abbrev pub AreDigits : ℕ → List ℕ → ℕ → Type 0
AreDigits n [] m = ⊥
AreDigits n (b ∷ bs) m = ((b < 128) × (bs ≡ []) × (m ≡ n * 128 + b % 128)) ⊎ ((128 ≤ b) × AreDigits (n * 128 + b % 128) bs m)

-- A number below 31 in bits 5 to 1 of the first octet (X.690 8.1.2.2); universal 0 is no tag (8.1.5).
abbrev pub IsLow : ℕ → List ℕ → ℕ → Type 0
IsLow first octets number = (octets ≡ []) × (number ≡ first % 32) × (number < 31) × ((first / 64 == 0) && (number == 0) ≡ false)

-- A number from 31 on, in base 128 behind a first octet whose bits 5 to 1 are ones, without a leading 80 (X.690 8.1.2.4); below 2 ^ 32 (this product's own).
abbrev pub IsHigh : ℕ → List ℕ → ℕ → Type 0
IsHigh first octets number = (first % 32 ≡ 31) × (31 ≤ number) × (number < 2 ^ 32) × (starts_with 128 octets ≡ false) × AreDigits 0 octets number

-- The identifier octets of a tag (X.690 8.1.2).
abbrev pub IsIdentifier : List ℕ → Tag → Type 0
IsIdentifier [] tag = ⊥
IsIdentifier (first ∷ octets) tag = (number : ℕ) × (tag ≡ tag_of first number) × (IsLow first octets number ⊎ IsHigh first octets number)

-- Octets as a number in base 256, the most significant first, behind n (X.690 8.1.3.5).
abbrev pub value_of : ℕ → List ℕ → ℕ
value_of n [] = n
value_of n (b ∷ bs) = value_of (n * 256 + b) bs

-- The octets of a definite length: one below 128, or 128 and a count, and as many octets that have the number; never 255 (X.690 8.1.3.3 to 8.1.3.5).
abbrev pub IsLength : List ℕ → ℕ → Type 0
IsLength [] n = ⊥
IsLength (first ∷ octets) n = ((first < 128) × (octets ≡ []) × (n ≡ first))
    ⊎ ((128 < first) × (first ≢ 255) × (length octets ≡ first - 128) × (n ≡ value_of 0 octets))

-- What stands before and behind n octets of contents: a definite length and nothing, or 80 and 00 00 (X.690 8.1.3.6, 8.1.5).
abbrev pub IsFramed : List ℕ → ℕ → List ℕ → Type 0
IsFramed front n back = (IsLength front n × (back ≡ [])) ⊎ ((front ≡ 128 ∷ []) × (back ≡ 0 ∷ 0 ∷ []))

-- One identifier octet, a definite length and contents octets, which others follow (X.690 8.1.1).
abbrev pub IsSplit : ℕ → List ℕ → List ℕ → List ℕ → Type 0
IsSplit identifier bytes contents rest = (front : List ℕ) × IsLength front (length contents) × (bytes ≡ identifier ∷ (front ++ (contents ++ rest)))

abbrev mutual
  -- The octets of an element behind its identifier, with at most so many elements within each other (X.690 8.1.1; primitive ones have definite lengths, 8.1.3.2).
  pub SpellsInside : ℕ → List ℕ → Element → Type 0
  SpellsInside levels bytes (primitive class number contents) =
      (1 ≤ levels) × (front : List ℕ) × IsLength front (length contents) × (bytes ≡ front ++ contents)
  SpellsInside levels bytes (constructed class number inner) =
      (1 ≤ levels) × (front : List ℕ) × (contents : List ℕ) × (back : List ℕ) × IsFramed front (length contents) back × SpellsAll (levels - 1) contents inner
      × (bytes ≡ front ++ (contents ++ back))

  -- The octets of elements one after the other (X.690 8.1.4).
  pub SpellsAll : ℕ → List ℕ → Elements → Type 0
  SpellsAll levels bytes none = bytes ≡ []
  SpellsAll levels bytes (more e es) =
      (tag : List ℕ) × (inside : List ℕ) × (others : List ℕ) × IsIdentifier tag (tag_is e) × SpellsInside levels inside e × SpellsAll levels others es
      × (bytes ≡ tag ++ (inside ++ others))

-- The octets of an element with at most so many elements within each other, itself counted (X.690 8.1.1; the bound is this product's own).
abbrev pub Spells : ℕ → List ℕ → Element → Type 0
Spells levels bytes e = (tag : List ℕ) × (inside : List ℕ) × IsIdentifier tag (tag_is e) × SpellsInside levels inside e × (bytes ≡ tag ++ inside)
