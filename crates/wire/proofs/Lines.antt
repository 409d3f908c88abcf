-- A head has a line feed for its start line, for each field and for its end.
use Rattle.std.proofs.Common.{◌≡◌, ◌<◌, ◌≤◌, ◌+◌, ℕ, List, [], ◌∷◌, ◌++◌, length, refl, ap, ◌∙◌, subst, arith}
use Rattle.std.proofs.lemmas.List.{append-nil}
use Rattle.httparse.specs.Grammar.{LineEnd, crlf, lf, print_end, print_blank, print_version, Field, print_field, print_section, RequestHead, print_request, NeverHasRequest, HasNoRequest, ResponseHead, print_response, NeverHasResponse, HasNoResponse, print_reason}
use Rattle.httparse.specs.Spans.{RequestExceeds, ResponseExceeds}
use Rattle.httparse.specs.declared.Error.{Error}
use Rattle.httparse.specs.declared.Error.TheVariants.{TooManyHeaders}
use Rattle.wire.specs.Front.{line_feeds}
use Rattle.wire.proofs.Fronts.{line_feeds-append}
use Rattle.std.specs.List.{flat_map}

end_has_one : (end : LineEnd) → line_feeds (print_end end) ≡ 1
end_has_one crlf = refl
end_has_one lf = refl

before_end : (a : List ℕ) (end : LineEnd) → 1 ≤ line_feeds (a ++ print_end end)
before_end a end = let parts = line_feeds-append a (print_end end) in let one = end_has_one end in omega arith

field_has_one : (f : Field) → 1 ≤ line_feeds (print_field f)
field_has_one f = before_end (f.name ++ 58 ∷ f.raw) f.end

fields_have : (fs : List Field) → length fs ≤ line_feeds (flat_map print_field fs)
fields_have [] = omega arith
fields_have (f ∷ fs) =
    let parts = line_feeds-append (print_field f) (flat_map print_field fs) in
    let one = field_has_one f in let more = fields_have fs in omega arith

section_has : (fs : List Field) (last : LineEnd) → length fs + 1 ≤ line_feeds (print_section fs last)
section_has fs last =
    let parts = line_feeds-append (flat_map print_field fs) (print_end last) in
    let one = end_has_one last in let many = fields_have fs in omega arith

request_has : (h : RequestHead) → length h.fields + 2 ≤ line_feeds (print_request h)
unfolding print_request
request_has h =
    let line = print_blank h.blank ++ h.method ++ 32 ∷ h.target ++ 32 ∷ print_version h.minor in
    let rest = line_feeds-append (line ++ print_end h.line_end) (print_section h.fields h.last) in
    let first = before_end line h.line_end in
    let many = section_has h.fields h.last in omega arith

response_has : (h : ResponseHead) → length h.fields + 2 ≤ line_feeds (print_response h)
unfolding print_response
response_has h =
    let line = print_blank h.blank ++ print_version h.minor ++ 32 ∷ h.digits ++ print_reason h.reason in
    let rest = line_feeds-append (line ++ print_end h.line_end) (print_section h.fields h.last) in
    let first = before_end line h.line_end in
    let many = section_has h.fields h.last in omega arith

-- bytes of at most 66 lines have no head of more than 66 fields, so the parser's room is never too little
no_more : (bytes front rest head : List ℕ) (fields : ℕ) → line_feeds bytes ≤ 66 → bytes ≡ front ++ rest → front ++ print_end lf ≡ head → fields + 2 ≤ line_feeds head → 66 < fields → ⊥
no_more bytes front rest head fields lines whole ended has over =
    let all = ap line_feeds whole ∙ line_feeds-append front rest in
    let end = line_feeds-append front (print_end lf) in
    let read = ap line_feeds ended in omega arith

pub request_never : (bytes : List ℕ) (e : Error) (room : ℕ) → line_feeds bytes ≤ 66 → room ≡ 66 → (e ≡ TooManyHeaders → RequestExceeds room bytes) → e ≡ TooManyHeaders → ⊥
request_never bytes e room lines is exceeds same =
    let x = subst (λ n. RequestExceeds n bytes) is (exceeds same) in
    no_more bytes x.0 x.1 (print_request x.3) (length x.3.fields) lines x.2 (x.4.1 ∙ append-nil (print_request x.3)) (request_has x.3) x.5

pub response_never : (bytes : List ℕ) (e : Error) (room : ℕ) → line_feeds bytes ≤ 66 → room ≡ 66 → (e ≡ TooManyHeaders → ResponseExceeds room bytes) → e ≡ TooManyHeaders → ⊥
response_never bytes e room lines is exceeds same =
    let x = subst (λ n. ResponseExceeds n bytes) is (exceeds same) in
    no_more bytes x.0 x.1 (print_response x.3) (length x.3.fields) lines x.2 (x.4.1 ∙ append-nil (print_response x.3)) (response_has x.3) x.5

pub no_request : (bytes : List ℕ) → NeverHasRequest bytes → HasNoRequest bytes
no_request bytes never = subst HasNoRequest (append-nil bytes) (never [])

pub no_response : (bytes : List ℕ) → NeverHasResponse bytes → HasNoResponse bytes
no_response bytes never = subst HasNoResponse (append-nil bytes) (never [])
