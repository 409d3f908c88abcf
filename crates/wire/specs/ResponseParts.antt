-- Where the parts of a response's head lie (this product's own).
use Rattle.std.specs.Prelude.{ℕ, ◌≡◌, List, Option, Some, None, IsUtf8, length, map, option_map, ⊤}
use Rattle.httparse.specs.Grammar.{ResponseHead, status_code}
use Rattle.httparse.specs.Spans.{IsWithin, name_and_value, span_bytes}
use Rattle.httparse.specs.declared.spans.Span.{Span}
use Rattle.wire.specs.Heads.{Head}
use Rattle.wire.specs.Responses.{location_in, read_response_head}
use Rattle.wire.specs.declared.message.HttpResponse.{HttpResponse}
use Rattle.wire.specs.declared.response.ResponseParts.{ResponseParts}

-- a place, where there is one, lies in the first n bytes and has text
abbrev pub IsText : ℕ → List ℕ → Option Span → Type 0
IsText n bytes None = ⊤
IsText n bytes (Some span) = IsWithin n span × IsUtf8 (span_bytes bytes span)

-- the text at a place, where there is one
abbrev pub text_at : List ℕ → Option Span → Option (List ℕ)
text_at bytes place = option_map (span_bytes bytes) place

-- these are the places of its parts in the bytes of a head
pub record AreResponseParts (parts : ResponseParts) (bytes : List ℕ) (found : Head HttpResponse) : Type 0 where
  pub head : ResponseHead
  pub is : found ≡ read_response_head head
  pub status : parts.status ≡ status_code head
  pub text : IsText (length bytes) bytes parts.location
  pub location : text_at bytes parts.location ≡ location_in (map name_and_value head.fields)
