-- What bytes begin with where requests come (RFC 9112 section 3).
use Rattle.std.specs.Prelude.{ℕ, ◌≡◌, ◌==◌, ◌||◌, Bool, List, length, map, codes}
use Rattle.httparse.specs.Grammar.{EndsInTarget, NeverHasRequest, ReadsRequest, RequestHead, print_request}
use Rattle.httparse.specs.Spans.{name_and_value}
use Rattle.wire.specs.Fields.{has_value}
use Rattle.wire.specs.Heads.{Begins, Head, Look}
use Rattle.wire.specs.declared.message.HttpRequest.{HttpRequest}

-- the connection ends after a request of version 1.0, and after one that says so
abbrev pub closes : RequestHead → Bool
closes head = (head.minor == 0) || has_value (codes "connection") (codes "close") (map name_and_value head.fields)

-- a request with this head and this body
abbrev pub request_of : RequestHead → List ℕ → HttpRequest
request_of head body = record { method = head.method; path = head.target; body = body; close = closes head }

-- a head of the grammar as what is read of it
abbrev pub read_request_head : RequestHead → Head HttpRequest
read_request_head head = record { size = length (print_request head); fields = map name_and_value head.fields; message = request_of head }

-- a head of a request stands at the front
pub record IsRequestHeadAt (front : List ℕ) (found : Head HttpRequest) : Type 0 where
  pub head : RequestHead
  pub rest : List ℕ
  pub reads : ReadsRequest front head rest
  pub is : found ≡ read_request_head head

-- no continuation of the front is a head, and it does not end within the request's target
pub record IsHopelessRequest (front : List ℕ) : Type 0 where
  pub never : NeverHasRequest front
  pub elsewhere : EndsInTarget front → ⊥

-- what bytes begin with
abbrev pub RequestLooks : List ℕ → Look HttpRequest → Type 0
RequestLooks = Begins IsRequestHeadAt IsHopelessRequest
