-- The Location of a charging session (TS 32.291, 6.1.3.3; RFC 9110, 10.2.2; the URL Standard).
use Rattle.std.specs.Prelude.{ℕ, List, [], Option, Some, None, Ok, Err, ◌++◌, length, take, drop, nat_le, codes, decimal, bytes_eq, if◌then◌else◌, option_map, option_and_then}
use Rattle.url.specs.Parser.{Parsed, parse_url}
use Rattle.url.specs.Parts.{Parts}
use Rattle.url.specs.declared.host.Host.TheVariants.{Domain}
use Rattle.rows.specs.Number.{number_of}

-- `http://peer/`, against which a Location is read
abbrev pub base : Parts
base = record { scheme = codes "http"; username = []; password = []; host = Some (Domain (codes "peer")); port = None; path = codes "/"; query = None; fragment = None }

-- what a parse gives, where it does
abbrev pub parsed : Parsed Parts → Option Parts
parsed (Ok url) = Some url
parsed (Err e) = None

-- the path of a Location, where it is a URL reference
abbrev pub path_of : List ℕ → Option (List ℕ)
path_of location = option_map (λ url. url.path) (parsed (parse_url (Some base) location))

-- the path of the collection of charging sessions, with a slash
abbrev pub collection : List ℕ
collection = codes "/nchf-convergedcharging/v3/chargingdata/"

-- what follows the collection
abbrev pub below_collection : List ℕ → Option (List ℕ)
below_collection path = if bytes_eq (take (length collection) path) collection then Some (drop (length collection) path) else None

-- a number above zero
abbrev pub positive : ℕ → Option ℕ
positive n = if nat_le 1 n then Some n else None

-- a reference: decimal digits without a leading zero, from 1 to 2^32 - 1 (this product's own)
abbrev pub reference_in : List ℕ → Option ℕ
reference_in text = option_and_then positive (number_of 4294967295 text)

-- the reference that a Location's path has below the collection
abbrev pub reference_of : List ℕ → Option ℕ
reference_of location = option_and_then reference_in (option_and_then below_collection (path_of location))

-- the Location of a reference
abbrev pub location_text : ℕ → List ℕ
location_text reference = collection ++ decimal reference
