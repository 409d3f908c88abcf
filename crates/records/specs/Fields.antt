-- What the contents octets of a record's fields mean.
use Rattle.std.specs.Prelude.{ℕ, ◌^◌, ◌-◌, Bool, false, ◌&&◌, ◌==◌, nat_le, nat_lt, List, [], ◌∷◌, drop, length, Option, Some, None, option_and_then, if◌then◌else◌}
use Rattle.std.specs.Int.{w64, to_be_bytes}
use Rattle.std.specs.Str.{is_utf8}
use Rattle.moments.specs.Stamp.{stamp_time}
use Rattle.ber.specs.Octets.{value_at}

-- Whether the first octet has no bit 8 (this product's own).
abbrev pub starts_low : List ℕ → Bool
starts_low [] = false
starts_low (b ∷ bs) = nat_lt b 128

-- INTEGER, two's complement and shortest; none where it is negative or above a limit (X.690 8.3).
abbrev pub integer_of : ℕ → List ℕ → Option ℕ
integer_of limit [] = None
integer_of limit (b ∷ bs) =
    if nat_le 128 b then None
    else (if (b == 0) && starts_low bs then None
    else option_and_then (λ n. if nat_le n limit then Some n else None) (value_at 0 (b ∷ bs)))

-- Text in UTF-8 (TS 32.298, 5.1.5).
abbrev pub text_of : List ℕ → Option (List ℕ)
text_of contents = if is_utf8 contents then Some contents else None

-- A time stamp of nine octets (TS 32.298, TimeStamp).
abbrev pub stamp_of : List ℕ → Option ℕ
stamp_of contents = if length contents == 9 then stamp_time contents else None

-- How many octets a number below 2 ^ 63 takes in two's complement (X.690 8.3.2).
abbrev pub integer_count : ℕ → ℕ
integer_count n = if nat_lt n (2 ^ 7) then 1 else (if nat_lt n (2 ^ 15) then 2 else (if nat_lt n (2 ^ 23) then 3 else (if nat_lt n (2 ^ 31) then 4
    else (if nat_lt n (2 ^ 39) then 5 else (if nat_lt n (2 ^ 47) then 6 else (if nat_lt n (2 ^ 55) then 7 else 8))))))

-- The shortest octets of a number of 64 bits in two's complement (X.690 8.3.2).
abbrev pub integer_octets : ℕ → List ℕ
integer_octets n = if nat_lt n (2 ^ 63) then drop (8 - integer_count n) (to_be_bytes w64 n) else 0 ∷ to_be_bytes w64 n
