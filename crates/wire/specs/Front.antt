-- The front of a message: the bytes had of it, cut after 16,384 bytes and after the 66th line feed (this product's own).
use Rattle.std.specs.Prelude.{ℕ, zero, suc, ◌+◌, ◌==◌, ◌||◌, nat_le, Bool, List, [], ◌∷◌, length, take, count_by, if◌then◌else◌}

-- how many line feeds there are
abbrev pub line_feeds : List ℕ → ℕ
line_feeds bytes = count_by (λ byte. byte == 10) bytes

-- how many bytes there are up to and with the n-th line feed, all where there are fewer
abbrev pub up_to : ℕ → List ℕ → ℕ
up_to zero bytes = 0
up_to (suc n) [] = 0
up_to (suc n) (byte ∷ bytes) = 1 + up_to (if byte == 10 then n else suc n) bytes

-- the front of these bytes
unfoldable pub front : List ℕ → List ℕ
front bytes = take 16384 (take (up_to 66 bytes) bytes)

-- it counts as cut as soon as it reaches either bound
unfoldable pub is_cut : List ℕ → Bool
is_cut bytes = nat_le 16384 (length bytes) || nat_le 66 (line_feeds bytes)
