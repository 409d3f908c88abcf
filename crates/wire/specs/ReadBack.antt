-- What is written reads back (this product's own).
use Rattle.std.specs.Prelude.{ℕ, ◌+◌, ◌≡◌, ◌<◌, ◌≤◌, ◌++◌, false, List, length, codes, Option, IsUtf8, IfSome, reverse}
use Rattle.httparse.specs.Grammar.{AllPass, is_uri_byte, is_value_byte, skip_ows}
use Rattle.wire.specs.Heads.{Whole}
use Rattle.wire.specs.Requests.{RequestLooks}
use Rattle.wire.specs.Responses.{ResponseLooks}
use Rattle.wire.specs.Texts.{body_of}

-- a host that may stand as a value, a path that may stand as a target, both short enough for a head, and a body that is not too long
pub record AreFit (host path body : List ℕ) : Type 0 where
  pub path_some : 0 < length path
  pub path_bytes : AllPass is_uri_byte path
  pub path_text : IsUtf8 path
  pub host_bytes : AllPass is_value_byte host
  pub head_short : length host + length path ≤ 16000
  pub body_short : length body ≤ 1048576

-- a request that was written is read as the same, whatever follows
abbrev pub RequestReadsBack : List ℕ → List ℕ → List ℕ → List ℕ → Type 0
RequestReadsBack host path body bytes =
    AreFit host path body → (more : List ℕ)
    → RequestLooks (bytes ++ more) (Whole (record { method = codes "POST"; path = path; body = body; close = false }) (length bytes))

-- a Location that may stand as a value, without white space around it, short enough for a head
pub record IsFitLocation (location : List ℕ) : Type 0 where
  pub bytes : AllPass is_value_byte location
  pub text : IsUtf8 location
  pub front : skip_ows location ≡ location
  pub back : skip_ows (reverse location) ≡ reverse location
  pub short : length location ≤ 16000

-- a response that was written is read as the same, whatever follows; a 204 without its body
abbrev pub ResponseReadsBack : ℕ → Option (List ℕ) → List ℕ → List ℕ → Type 0
ResponseReadsBack status location body bytes =
    IfSome location IsFitLocation → length body ≤ 1048576 → (more : List ℕ)
    → ResponseLooks (bytes ++ more) (Whole (record { status = status; location = location; body = body_of status body }) (length bytes))
