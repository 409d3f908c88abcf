-- The texts of the messages that are written (RFC 9112 sections 3 to 6; which fields and their order are this product's own).
use Rattle.std.specs.Prelude.{ℕ, ◌==◌, Bool, true, false, List, [], ◌∷◌, ◌++◌, length, codes, decimal, unwrap_or, nat_lt, if◌then◌else◌, Option, Some, None}
use Rattle.http.specs.StatusCode.{code_digits, reason_phrase}

-- a line of a head
unfoldable pub line : List ℕ → List ℕ → List ℕ
line name value = name ++ 58 ∷ 32 ∷ value ++ 13 ∷ 10 ∷ []

-- the first line of a request
unfoldable pub request_line : List ℕ → List ℕ
request_line path = codes "POST " ++ path ++ codes " HTTP/1.1\r\n"

-- a request with a JSON body
abbrev pub request_text : List ℕ → List ℕ → List ℕ → List ℕ
request_text host path body =
    request_line path ++ line (codes "Content-Length") (decimal (length body)) ++ line (codes "Content-Type") (codes "application/json") ++ line (codes "Host") host ++ codes "\r\n" ++ body

-- a problem has a type of its own
abbrev pub content_type : ℕ → List ℕ
content_type status = if nat_lt status 300 then codes "application/json" else codes "application/problem+json"

-- the first line of a response
unfoldable pub status_line : ℕ → List ℕ
status_line status = codes "HTTP/1.1 " ++ code_digits status ++ codes " " ++ unwrap_or (reason_phrase status) [] ++ codes "\r\n"

-- where the connection is closed after it
abbrev pub close_line : Bool → List ℕ
close_line true = line (codes "Connection") (codes "close")
close_line false = []

-- the length and the type of the body
abbrev pub body_lines : ℕ → List ℕ → List ℕ
body_lines status body = if status == 204 then [] else line (codes "Content-Length") (decimal (length body)) ++ line (codes "Content-Type") (content_type status)

-- the Location, where there is one
abbrev pub location_line : Option (List ℕ) → List ℕ
location_line None = []
location_line (Some location) = line (codes "Location") location

-- a 204 has no body
abbrev pub body_of : ℕ → List ℕ → List ℕ
body_of status body = if status == 204 then [] else body

-- a response
abbrev pub response_text : ℕ → Option (List ℕ) → List ℕ → Bool → List ℕ
response_text status location body close =
    status_line status ++ close_line close ++ body_lines status body ++ location_line location ++ codes "\r\n" ++ body_of status body
