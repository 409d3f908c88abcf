-- Lines that are one row at sight: printable ASCII without a double quote, which `csv` reads as the pieces between their commas (RFC 4180 in the csv crate's profile).
use Rattle.std.specs.Prelude.{ℕ, ◌==◌, ◌&&◌, not, nat_le, Bool, false, List, [], ◌∷◌}
use Rattle.std.specs.List.{list_all}

-- a printable byte that is no double quote
abbrev pub is_plain_byte : ℕ → Bool
is_plain_byte byte = nat_le 32 byte && nat_le byte 126 && not (byte == 34)

-- a line of such bytes, at least one
abbrev pub is_plain : List ℕ → Bool
is_plain [] = false
is_plain (byte ∷ line) = list_all is_plain_byte (byte ∷ line)
