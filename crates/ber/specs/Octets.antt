-- Identifier and length octets, taken from the front (X.690 8.1.2, 8.1.3); none where they are at fault.
use Rattle.std.specs.Prelude.{ℕ, ◌+◌, ◌-◌, ◌*◌, ◌/◌, ◌%◌, ◌^◌, ◌&&◌, ◌==◌, nat_lt, nat_le, List, [], ◌∷◌, length, take, drop, Option, Some, None, option_and_then, if◌then◌else◌}
use Rattle.ber.specs.declared.tag.Tag.{Tag}
use Rattle.ber.specs.Spelling.{tag_of, starts_with}

-- Base 128, the most significant digit first, continued; below 2 ^ 32 (X.690 8.1.2.4.2).
abbrev pub digits_at : ℕ → List ℕ → Option (ℕ × List ℕ)
digits_at n [] = None
digits_at n (b ∷ bs) = if nat_le (2 ^ 25) n then None else (if nat_lt b 128 then Some (n * 128 + b % 128, bs) else digits_at (n * 128 + b % 128) bs)

-- The number of a tag of 31 and above, and what follows it (X.690 8.1.2.4).
abbrev pub high_at : List ℕ → Option (ℕ × List ℕ)
high_at bytes = if starts_with 128 bytes then None else option_and_then (λ x. if nat_lt x.0 31 then None else Some x) (digits_at 0 bytes)

-- The tag, and what follows it (X.690 8.1.2).
abbrev pub tag_at : List ℕ → Option (Tag × List ℕ)
tag_at [] = None
tag_at (first ∷ rest) =
    if first % 32 == 31 then option_and_then (λ x. Some (tag_of first x.0, x.1)) (high_at rest)
    else (if (first / 64 == 0) && (first % 32 == 0) then None else Some (tag_of first (first % 32), rest))

-- A number in base 256, the most significant octet first, continued; below 2 ^ 64 (X.690 8.1.3.5).
abbrev pub value_at : ℕ → List ℕ → Option ℕ
value_at n [] = Some n
value_at n (b ∷ bs) = if nat_le (2 ^ 56) n then None else value_at (n * 256 + b) bs

-- How many octets the contents have, none within where the length is indefinite, and what follows (X.690 8.1.3).
abbrev pub length_at : List ℕ → Option (Option ℕ × List ℕ)
length_at [] = None
length_at (first ∷ rest) =
    if nat_lt first 128 then Some (Some first, rest)
    else (if first == 128 then Some (None, rest)
    else (if first == 255 then None
    else (if nat_lt (length rest) (first - 128) then None
    else option_and_then (λ n. Some (Some n, drop (first - 128) rest)) (value_at 0 (take (first - 128) rest)))))

-- The contents octets of a definite length, and what follows; none where it is indefinite, or goes past the octets that are there (X.690 8.1.3.2).
abbrev pub definite_at : Option ℕ × List ℕ → Option (List ℕ × List ℕ)
definite_at x = option_and_then (λ n. if nat_lt (length x.1) n then None else Some (take n x.1, drop n x.1)) x.0

-- The contents octets behind one identifier octet and a definite length, and what follows; none where another element stands here (X.690 8.1.1).
abbrev pub contents_at : ℕ → List ℕ → Option (List ℕ × List ℕ)
contents_at identifier [] = None
contents_at identifier (first ∷ rest) = if first == identifier then option_and_then definite_at (length_at rest) else None
