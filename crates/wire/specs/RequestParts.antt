-- Where the parts of a request's head lie (this product's own).
use Rattle.std.specs.Prelude.{ℕ, ◌≡◌, List, IsUtf8, length}
use Rattle.httparse.specs.Grammar.{IsToken, RequestHead}
use Rattle.httparse.specs.Spans.{IsWithin, span_bytes}
use Rattle.wire.specs.Heads.{Head}
use Rattle.wire.specs.Requests.{closes, read_request_head}
use Rattle.wire.specs.declared.message.HttpRequest.{HttpRequest}
use Rattle.wire.specs.declared.request.RequestParts.{RequestParts}

-- these are the places of its parts in the bytes of a head
pub record AreRequestParts (parts : RequestParts) (bytes : List ℕ) (found : Head HttpRequest) : Type 0 where
  pub head : RequestHead
  pub is : found ≡ read_request_head head
  pub method_within : IsWithin (length bytes) parts.method
  pub method : span_bytes bytes parts.method ≡ head.method
  pub token : IsToken head.method
  pub path_within : IsWithin (length bytes) parts.path
  pub path : span_bytes bytes parts.path ≡ head.target
  pub text : IsUtf8 head.target
  pub close : parts.close ≡ closes head
