-- The text of an epoch: decimal digits, below 2^64, and a line feed, with nothing behind it (this product's own).
use Rattle.std.specs.Prelude.{ℕ, ◌+◌, ◌-◌, ◌*◌, ◌^◌, ◌==◌, ◌&&◌, nat_lt, nat_le, List, [], ◌∷◌, length, Option, Some, None, if◌then◌else◌}

-- the epoch of a text, of which the digits before were n
abbrev pub epoch_from : ℕ → List ℕ → Option ℕ
epoch_from n [] = None
epoch_from n (b ∷ bs) =
    if b == 10 then (if length bs == 0 then Some n else None)
    else (if nat_le 48 b && (nat_le b 57 && nat_lt (n * 10 + (b - 48)) (2 ^ 64)) then epoch_from (n * 10 + (b - 48)) bs else None)

-- the epoch of a text, none where it is not one; at least one digit stands there
abbrev pub epoch_of : List ℕ → Option ℕ
epoch_of [] = None
epoch_of (b ∷ bs) = if b == 10 then None else epoch_from 0 (b ∷ bs)
