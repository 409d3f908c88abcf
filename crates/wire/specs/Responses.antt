-- What bytes begin with where responses come (RFC 9112 section 4).
use Rattle.std.specs.Prelude.{ℕ, ◌≡◌, ◌&&◌, List, [], ◌∷◌, Option, Some, None, length, map, codes, if◌then◌else◌}
use Rattle.std.specs.Str.{is_utf8}
use Rattle.httparse.specs.Grammar.{NeverHasResponse, ReadsResponse, ResponseHead, print_response, status_code}
use Rattle.httparse.specs.Spans.{name_and_value}
use Rattle.wire.specs.Fields.{Named, is_word}
use Rattle.wire.specs.Heads.{Begins, Head, Look}
use Rattle.wire.specs.declared.message.HttpResponse.{HttpResponse}

-- the value of the first Location that is text
abbrev pub location_in : List Named → Option (List ℕ)
location_in [] = None
location_in (field ∷ fields) = if is_word (codes "location") field.0 && is_utf8 field.1 then Some field.1 else location_in fields

-- a response with this head and this body
abbrev pub response_of : ResponseHead → List ℕ → HttpResponse
response_of head body = record { status = status_code head; location = location_in (map name_and_value head.fields); body = body }

-- a head of the grammar as what is read of it
abbrev pub read_response_head : ResponseHead → Head HttpResponse
read_response_head head = record { size = length (print_response head); fields = map name_and_value head.fields; message = response_of head }

-- a head of a response stands at the front
pub record IsResponseHeadAt (front : List ℕ) (found : Head HttpResponse) : Type 0 where
  pub head : ResponseHead
  pub rest : List ℕ
  pub reads : ReadsResponse front head rest
  pub is : found ≡ read_response_head head

-- no continuation of the front is a head
abbrev pub IsHopelessResponse : List ℕ → Type 0
IsHopelessResponse front = NeverHasResponse front

-- what bytes begin with
abbrev pub ResponseLooks : List ℕ → Look HttpResponse → Type 0
ResponseLooks = Begins IsResponseHeadAt IsHopelessResponse
