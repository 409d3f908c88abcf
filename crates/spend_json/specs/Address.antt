-- The address to which notifications go (TS 29.594, notifUri; the URL Standard; the bound is this product's own).
use Rattle.std.specs.Prelude.{ℕ, ◌&&◌, nat_le, length, Bool, false, List, Ok, Err, bytes_eq, codes, None}
use Rattle.url.specs.Parser.{Parsed, parse_url}
use Rattle.url.specs.Parts.{Parts}

-- whether a parse gives a URL of the scheme `http`
abbrev pub is_http : Parsed Parts → Bool
is_http (Ok url) = bytes_eq url.scheme (codes "http")
is_http (Err e) = false

-- an address for notifications: at most 255 bytes, and a URL of the scheme `http`
abbrev pub is_address : List ℕ → Bool
is_address text = nat_le (length text) 255 && is_http (parse_url None text)
