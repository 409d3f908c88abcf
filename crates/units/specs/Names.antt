-- Names, trigger types and addresses as texts (this product's own).
use Rattle.std.specs.Prelude.{ℕ, ◌==◌, ◌&&◌, not, nat_le, length, Bool, List}
use Rattle.std.specs.List.{list_all}

-- a byte that a name may have: 0x21 to 0x7E without comma and double quote
abbrev pub is_name_byte : ℕ → Bool
is_name_byte byte = nat_le 33 byte && nat_le byte 126 && not (byte == 44) && not (byte == 34)

-- a name: 1 to 255 bytes of those
abbrev pub spells_name : List ℕ → Bool
spells_name bytes = nat_le 1 (length bytes) && nat_le (length bytes) 255 && list_all is_name_byte bytes

-- a trigger's type: 1 to 64 bytes of those
abbrev pub is_kind : List ℕ → Bool
is_kind text = nat_le 1 (length text) && nat_le (length text) 64 && list_all is_name_byte text

-- a byte from 0x21 to 0x7E
abbrev pub is_visible : ℕ → Bool
is_visible byte = nat_le 33 byte && nat_le byte 126

-- an address for notifications: 1 to 255 bytes of those
abbrev pub is_address : List ℕ → Bool
is_address text = nat_le 1 (length text) && nat_le (length text) 255 && list_all is_visible text
