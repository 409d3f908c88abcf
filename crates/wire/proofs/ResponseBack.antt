-- A response that was written is read as the same, whatever follows.
use Rattle.std.proofs.Common.{◌≡◌, ◌<◌, ◌≤◌, ◌+◌, ◌*◌, ◌/◌, ◌%◌, ◌^◌, ◌==◌, ◌&&◌, ℕ, zero, suc, List, [], ◌∷◌, ◌++◌, length, take, drop, map, option_and_then, All, IsTrue, IfSome, Bool, true, false, cond, nat_le, nat_lt, codes, decimal, unwrap_or, Option, Some, None, Ok, Err, refl, ap, sym, ◌∙◌, subst, arith, append_assoc, append-nil, lit≤, length-append}
use Rattle.std.proofs.lemmas.Bool.{and_parts}
use Rattle.std.proofs.lemmas.Bool.Decides.{Decides-below_and, nat_tests}
use Rattle.std.proofs.lemmas.Fmt.{length-decimal-le}
use Rattle.std.proofs.lemmas.Grind.{flat_map-append}
use Rattle.std.proofs.lemmas.List.{take-append-le, take_all}
use Rattle.std.proofs.lemmas.List.Elements.{All-append, All-nil, All-cons}
use Rattle.std.proofs.lemmas.Str.{is_utf8-from_IsUtf8}
use Rattle.std.specs.Char.{digit_value, is_ascii_digit}
use Rattle.std.specs.List.{flat_map, list_all}
use Rattle.std.specs.Str.{is_utf8}
use Rattle.std.specs.Str.Parse.{digits_value}
use Rattle.http.specs.StatusCode.{code_digits, reason_phrase}
use Rattle.httparse.specs.Grammar.{AllPass, Field, IsField, IsResponseHead, ResponseHead, crlf, is_token_byte, is_value_byte, print_field, print_response, trim_ows}
use Rattle.httparse.specs.Spans.{name_and_value}
use Rattle.httparse.proofs.TrimLemmas.{trim_ows_space}
use Rattle.httparse.proofs.OnLiterals.{httparse_on_literals}
use Rattle.wire.specs.Fields.{Named, agree, body_length, judged, length_of}
use Rattle.wire.specs.Front.{front, line_feeds}
use Rattle.wire.specs.Heads.{Begins, Whole}
use Rattle.wire.specs.Responses.{ResponseLooks, location_in, read_response_head}
use Rattle.wire.specs.ReadBack.{IsFitLocation}
use Rattle.wire.specs.Texts.{body_lines, body_of, close_line, content_type, line, location_line, response_text, status_line}
use Rattle.wire.specs.declared.message.HttpResponse.{HttpResponse}
use Rattle.wire.specs.declared.refusal.WireRefusal.TheVariants.{TooLong}
use Rattle.wire.proofs.Fronts.{front_has, line_feeds-append}
use Rattle.wire.proofs.RequestBack.{digits_pass, drop_front, field, length-line, length_reads, line_feeds-line, no_feeds, passing, trimmed_decimal, valued}

pub close_fields : Bool → List Field
close_fields true = field (codes "Connection") (codes "close") ∷ []
close_fields false = []

pub body_fields : Bool → ℕ → List ℕ → List Field
body_fields true n kind = []
body_fields false n kind = field (codes "Content-Length") (decimal n) ∷ field (codes "Content-Type") kind ∷ []

pub location_fields : Option (List ℕ) → List Field
location_fields None = []
location_fields (Some location) = field (codes "Location") location ∷ []

-- the head as it is written
pub head_of : ℕ → Bool → Option (List ℕ) → ℕ → ResponseHead
head_of status close location n = record {
  blank = [];
  minor = 1;
  digits = code_digits status;
  reason = Some (unwrap_or (reason_phrase status) []);
  line_end = crlf;
  fields = (close_fields close ++ body_fields (status == 204) n (content_type status)) ++ location_fields location;
  last = crlf;
}

-- a reason phrase is a short value
fit_phrase : Option (List ℕ) → Bool
fit_phrase None = true
fit_phrase (Some phrase) = list_all is_value_byte phrase && nat_le (length phrase) 64

fit_below : ℕ → Bool
fit_below zero = true
fit_below (suc n) = fit_phrase (reason_phrase n) && fit_below n

pub record IsFitPhrase (phrase : List ℕ) : Type 0 where
  pub bytes : AllPass is_value_byte phrase
  pub short : length phrase ≤ 64

from_fit : (phrase : Option (List ℕ)) → fit_phrase phrase ≡ true → IsFitPhrase (unwrap_or phrase [])
unfolding fit_phrase
from_fit None h = record { bytes = All-nil (λ b. IsTrue (is_value_byte b)); short = lit≤ tt }
from_fit (Some phrase) h = let parts = and_parts _ _ h in record { bytes = passing is_value_byte phrase parts.0; short = let e : nat_le (length phrase) 64 ≡ true = parts.1 in grind arith }

phrase_fits : (status : ℕ) → status < 1000 → IsFitPhrase (unwrap_or (reason_phrase status) [])
unfolding fit_below fit_phrase httparse_on_literals
phrase_fits status h =
    let test = λ (k : ℕ). fit_phrase (reason_phrase k) in
    from_fit (reason_phrase status) ((Decides-below_and test (λ k. test k ≡ true) fit_below (λ k. (λ x. x, λ x. x)) refl (λ _. refl) 1000).0 refl status h)

digit_pass : (d : ℕ) → d < 10 → IsTrue (is_ascii_digit (48 + d))
digit_pass d h = grind (arith, nat_tests)

digit_is : (d : ℕ) → d < 10 → digit_value (48 + d) ≡ d
digit_is d h = grind (arith, nat_tests)

code_passes : (status : ℕ) → status < 1000 → AllPass is_ascii_digit (code_digits status)
code_passes status h =
    let c = 48 + status % 10 in
    let b = 48 + status / 10 % 10 in
    All-cons (λ b. IsTrue (is_ascii_digit b)) (48 + status / 100) (b ∷ c ∷ []) (digit_pass (status / 100) (omega arith)) (All-cons (λ b. IsTrue (is_ascii_digit b)) b (c ∷ []) (digit_pass (status / 10 % 10) (omega arith))
    (All-cons (λ b. IsTrue (is_ascii_digit b)) c [] (digit_pass (status % 10) (omega arith)) (All-nil (λ b. IsTrue (is_ascii_digit b)))))

code_value : (status : ℕ) → status < 1000 → digits_value 10 (code_digits status) ≡ status
code_value status h =
    let a = digit_is (status / 100) (omega arith) in
    let b = digit_is (status / 10 % 10) (omega arith) in
    let c = digit_is (status % 10) (omega arith) in
    (λ i. ((0 * 10 + a i) * 10 + b i) * 10 + c i) ∙ whole status h where
      whole : (s : ℕ) → s < 1000 → ((0 * 10 + s / 100) * 10 + s / 10 % 10) * 10 + s % 10 ≡ s
      whole s h = omega arith

closes_field : (close : Bool) → All IsField (close_fields close)
unfolding close_fields httparse_on_literals
closes_field true = All-cons IsField _ [] (valued (codes "Connection") (codes "close") (omega arith, passing is_token_byte (codes "Connection") refl) (passing is_value_byte (codes "close") refl)) (All-nil IsField)
closes_field false = All-nil IsField

kind_passes : (status : ℕ) → AllPass is_value_byte (content_type status)
unfolding httparse_on_literals
kind_passes status = by (nat_lt status 300) where
  by : (t : Bool) → AllPass is_value_byte (cond t (codes "application/json") (codes "application/problem+json"))
  by true = passing is_value_byte (codes "application/json") refl
  by false = passing is_value_byte (codes "application/problem+json") refl

body_field : (empty : Bool) (n : ℕ) (kind : List ℕ) → n ≤ 1048576 → AllPass is_value_byte kind → All IsField (body_fields empty n kind)
unfolding body_fields httparse_on_literals
body_field true n kind small h = All-nil IsField
body_field false n kind small h =
    let b = field (codes "Content-Type") kind in
    All-cons IsField (field (codes "Content-Length") (decimal n)) (b ∷ []) (valued (codes "Content-Length") (decimal n) (omega arith, passing is_token_byte (codes "Content-Length") refl) (digits_pass n (omega (arith, small))))
    (All-cons IsField b [] (valued (codes "Content-Type") kind (omega arith, passing is_token_byte (codes "Content-Type") refl) h) (All-nil IsField))

location_field : (location : Option (List ℕ)) → IfSome location IsFitLocation → All IsField (location_fields location)
unfolding location_fields httparse_on_literals
location_field None h = All-nil IsField
location_field (Some location) h = All-cons IsField (field (codes "Location") location) [] (valued (codes "Location") location (omega arith, passing is_token_byte (codes "Location") refl) h.bytes) (All-nil IsField)

pub is_head : (status : ℕ) (close : Bool) (location : Option (List ℕ)) (n : ℕ) → status < 1000 → IfSome location IsFitLocation → n ≤ 1048576 → IsResponseHead (head_of status close location n)
unfolding head_of
is_head status close location n within fit small = record {
  minor = lit≤ tt;
  digits = (refl, code_passes status within);
  reason = (phrase_fits status within).bytes;
  fields = All-append IsField (close_fields close ++ body_fields (status == 204) n (content_type status)) (location_fields location)
      (All-append IsField (close_fields close) (body_fields (status == 204) n (content_type status)) (closes_field close) (body_field (status == 204) n (content_type status) small (kind_passes status)))
      (location_field location fit);
}

-- the text of the head, before its body
pub head_text : ℕ → Bool → Option (List ℕ) → List ℕ → List ℕ
head_text status close location body = status_line status ++ close_line close ++ body_lines status body ++ location_line location ++ codes "\r\n"

close_printed : (close : Bool) → close_line close ≡ flat_map print_field (close_fields close)
unfolding close_fields line
close_printed true = sym (append-nil _)
close_printed false = refl

body_printed : (empty : Bool) (n : ℕ) (kind : List ℕ) → cond empty [] (line (codes "Content-Length") (decimal n) ++ line (codes "Content-Type") kind) ≡ flat_map print_field (body_fields empty n kind)
unfolding body_fields line
body_printed true n kind = refl
body_printed false n kind = ap (λ t. line (codes "Content-Length") (decimal n) ++ t) (sym (append-nil (line (codes "Content-Type") kind)))

location_printed : (location : Option (List ℕ)) → location_line location ≡ flat_map print_field (location_fields location)
unfolding location_fields line
location_printed None = refl
location_printed (Some location) = sym (append-nil _)

start : (status : ℕ) → status_line status ≡ ((codes "HTTP/1.1" ++ 32 ∷ code_digits status) ++ 32 ∷ unwrap_or (reason_phrase status) []) ++ 13 ∷ 10 ∷ []
unfolding status_line
start status = regroup (codes "HTTP/1.1 " ++ code_digits status) (unwrap_or (reason_phrase status) []) (13 ∷ 10 ∷ []) where
  regroup : (x phrase e : List ℕ) → ((x ++ 32 ∷ []) ++ phrase) ++ e ≡ (x ++ 32 ∷ phrase) ++ e
  regroup x phrase e = ap (λ t. t ++ e) (append_assoc x (32 ∷ []) phrase)

sections : (s a b c e : List ℕ) → (((s ++ a) ++ b) ++ c) ++ e ≡ s ++ (((a ++ b) ++ c) ++ e)
sections s a b c e = simp append_assoc

pub printed : (status : ℕ) (close : Bool) (location : Option (List ℕ)) (body : List ℕ) → head_text status close location body ≡ print_response (head_of status close location (length body))
unfolding head_text head_of print_response
printed status close location body =
    let a = close_fields close in
    let b = body_fields (status == 204) (length body) (content_type status) in
    let c = location_fields location in
    (λ i. status_line status ++ close_printed close i ++ body_printed (status == 204) (length body) (content_type status) i ++ location_printed location i ++ codes "\r\n")
    ∙ sections (status_line status) (flat_map print_field a) (flat_map print_field b) (flat_map print_field c) (codes "\r\n")
    ∙ ap (λ t. status_line status ++ (t ++ codes "\r\n")) (ap (λ t. t ++ flat_map print_field c) (sym (flat_map-append print_field a b)) ∙ sym (flat_map-append print_field (a ++ b) c))
    ∙ ap (λ s. s ++ (flat_map print_field ((a ++ b) ++ c) ++ codes "\r\n")) (start status)

close_feeds : (close : Bool) → line_feeds (close_line close) ≤ 1
close_feeds true = omega (arith, line_feeds-line (codes "Connection") (codes "close"))
close_feeds false = omega arith

body_feeds : (empty : Bool) (n : ℕ) (kind : List ℕ) → n ≤ 1048576 → AllPass is_value_byte kind → line_feeds (cond empty [] (line (codes "Content-Length") (decimal n) ++ line (codes "Content-Type") kind)) ≤ 2
body_feeds true n kind small h = omega arith
body_feeds false n kind small h =
    let number = no_feeds is_value_byte (decimal n) refl (digits_pass n (omega (arith, small))) in
    let value = no_feeds is_value_byte kind refl h in
    omega (arith, line_feeds-append (line (codes "Content-Length") (decimal n)) (line (codes "Content-Type") kind), line_feeds-line (codes "Content-Length") (decimal n), line_feeds-line (codes "Content-Type") kind, number, value)

location_feeds : (location : Option (List ℕ)) → IfSome location IsFitLocation → line_feeds (location_line location) ≤ 1
location_feeds None h = omega arith
location_feeds (Some location) h = omega (arith, line_feeds-line (codes "Location") location, no_feeds is_value_byte location refl h.bytes)

status_feeds : (status : ℕ) → status < 1000 → line_feeds (status_line status) ≤ 1
unfolding status_line
status_feeds status within = by (code_digits status) (unwrap_or (reason_phrase status) []) (no_feeds is_ascii_digit (code_digits status) refl (code_passes status within)) (no_feeds is_value_byte (unwrap_or (reason_phrase status) []) refl (phrase_fits status within).bytes) where
  by : (digits phrase : List ℕ) → line_feeds digits ≡ 0 → line_feeds phrase ≡ 0 → line_feeds (codes "HTTP/1.1 " ++ digits ++ codes " " ++ phrase ++ codes "\r\n") ≤ 1
  by digits phrase a b =
      let x = codes "HTTP/1.1 " in
      omega (arith, line_feeds-append (((x ++ digits) ++ codes " ") ++ phrase) (codes "\r\n"), line_feeds-append ((x ++ digits) ++ codes " ") phrase, line_feeds-append (x ++ digits) (codes " "), line_feeds-append x digits, a, b)

pub few_lines : (status : ℕ) (close : Bool) (location : Option (List ℕ)) (body : List ℕ) → status < 1000 → IfSome location IsFitLocation → length body ≤ 1048576 → line_feeds (head_text status close location body) < 66
unfolding head_text
few_lines status close location body within fit small =
    let s = status_line status in
    let a = close_line close in
    let b = body_lines status body in
    let c = location_line location in
    omega (
      arith,
      line_feeds-append (((s ++ a) ++ b) ++ c) (codes "\r\n"),
      line_feeds-append ((s ++ a) ++ b) c,
      line_feeds-append (s ++ a) b,
      line_feeds-append s a,
      status_feeds status within,
      close_feeds close,
      body_feeds (status == 204) (length body) (content_type status) small (kind_passes status),
      location_feeds location fit,
    )

close_bytes : (close : Bool) → length (close_line close) ≤ 30
close_bytes true = omega (arith, length-line (codes "Connection") (codes "close"))
close_bytes false = omega arith

kind_short : (status : ℕ) → length (content_type status) ≤ 30
kind_short status = by (nat_lt status 300) where
  by : (t : Bool) → length (cond t (codes "application/json") (codes "application/problem+json")) ≤ 30
  by true = lit≤ tt
  by false = lit≤ tt

body_bytes : (empty : Bool) (n : ℕ) (kind : List ℕ) → n ≤ 1048576 → length kind ≤ 30 → length (cond empty [] (line (codes "Content-Length") (decimal n) ++ line (codes "Content-Type") kind)) ≤ 100
body_bytes true n kind small h = omega arith
body_bytes false n kind small h =
    let number : length (decimal n) ≤ 20 = length-decimal-le 20 n (omega arith) (omega (arith, small)) (omega (arith, small)) in
    omega (arith, length-append (line (codes "Content-Length") (decimal n)) (line (codes "Content-Type") kind), length-line (codes "Content-Length") (decimal n), length-line (codes "Content-Type") kind, number, h)

location_bytes : (location : Option (List ℕ)) → IfSome location IsFitLocation → length (location_line location) ≤ 16012
location_bytes None h = omega arith
location_bytes (Some location) h = omega (arith, length-line (codes "Location") location, h.short)

status_bytes : (status : ℕ) → status < 1000 → length (status_line status) ≤ 100
unfolding status_line
status_bytes status within = by (code_digits status) (unwrap_or (reason_phrase status) []) refl (phrase_fits status within).short where
  by : (digits phrase : List ℕ) → length digits ≡ 3 → length phrase ≤ 64 → length (codes "HTTP/1.1 " ++ digits ++ codes " " ++ phrase ++ codes "\r\n") ≤ 100
  by digits phrase a b =
      let x = codes "HTTP/1.1 " in
      omega (arith, length-append (((x ++ digits) ++ codes " ") ++ phrase) (codes "\r\n"), length-append ((x ++ digits) ++ codes " ") phrase, length-append (x ++ digits) (codes " "), length-append x digits, a, b)

pub few_bytes : (status : ℕ) (close : Bool) (location : Option (List ℕ)) (body : List ℕ) → status < 1000 → IfSome location IsFitLocation → length body ≤ 1048576 → length (head_text status close location body) ≤ 16384
unfolding head_text
few_bytes status close location body within fit small =
    let s = status_line status in
    let a = close_line close in
    let b = body_lines status body in
    let c = location_line location in
    omega (
      arith,
      length-append (((s ++ a) ++ b) ++ c) (codes "\r\n"),
      length-append ((s ++ a) ++ b) c,
      length-append (s ++ a) b,
      length-append s a,
      status_bytes status within,
      close_bytes close,
      body_bytes (status == 204) (length body) (content_type status) small (kind_short status),
      location_bytes location fit,
    )

-- the fields of a head as they are read
named : Bool → Bool → ℕ → List ℕ → Option (List ℕ) → List Named
named close empty n kind location = map name_and_value ((close_fields close ++ body_fields empty n kind) ++ location_fields location)

number_read : (n : ℕ) → n ≤ 1048576 → judged (option_and_then (λ now. Some now) (option_and_then (agree None) (length_of (trim_ows (32 ∷ decimal n))))) false ≡ Ok n
number_read n small =
    let fits : n < 2 ^ 64 = omega arith in
    let small_is : nat_le n 1048576 ≡ true = grind (arith, nat_tests) in
    ap (λ v. judged (option_and_then (λ now. Some now) (option_and_then (agree None) (length_of v))) false) (trimmed_decimal n fits)
    ∙ ap (λ o. judged (option_and_then (λ now. Some now) (option_and_then (agree None) o)) false) (length_reads n small)
    ∙ ap (λ t. cond t (Ok n) (Err (TooLong false))) small_is

location_read : (location : List ℕ) → IsFitLocation location → cond (is_utf8 (trim_ows (32 ∷ location))) (Some (trim_ows (32 ∷ location))) None ≡ Some location
location_read location fit =
    let same = trim_ows_space location fit.front fit.back in
    ap (λ v. cond (is_utf8 v) (Some v) None) same ∙ ap (λ t. cond t (Some location) None) (is_utf8-from_IsUtf8 location fit.text)

-- the fields say how long the body is
stated : (close empty : Bool) (n : ℕ) (kind : List ℕ) (location : Option (List ℕ)) → n ≤ 1048576 → body_length (named close empty n kind location) ≡ Ok (cond empty 0 n)
unfolding body_length named close_fields body_fields location_fields
stated true true n kind None small = refl
stated true true n kind (Some location) small = refl
stated false true n kind None small = refl
stated false true n kind (Some location) small = refl
stated true false n kind None small = number_read n small
stated true false n kind (Some location) small = number_read n small
stated false false n kind None small = number_read n small
stated false false n kind (Some location) small = number_read n small

-- and where it is
located : (close empty : Bool) (n : ℕ) (kind : List ℕ) (location : Option (List ℕ)) → IfSome location IsFitLocation → location_in (named close empty n kind location) ≡ location
unfolding named close_fields body_fields location_fields
located true true n kind None fit = refl
located true true n kind (Some location) fit = location_read location fit
located false true n kind None fit = refl
located false true n kind (Some location) fit = location_read location fit
located true false n kind None fit = refl
located true false n kind (Some location) fit = location_read location fit
located false false n kind None fit = refl
located false false n kind (Some location) fit = location_read location fit

body_length_is : (empty : Bool) (body : List ℕ) → length (cond empty [] body) ≡ cond empty 0 (length body)
body_length_is true body = refl
body_length_is false body = refl

-- the text and what follows begin with that response
pub response_back : (status : ℕ) (close : Bool) (location : Option (List ℕ)) (body bytes more : List ℕ) → bytes ≡ response_text status location body close → status < 1000 → IfSome location IsFitLocation → length body ≤ 1048576
    → ResponseLooks (bytes ++ more) (Whole (record { status = status; location = location; body = body_of status body }) (length bytes))
unfolding Begins head_of named head_text
response_back status close location body bytes more is within fit small =
    let n = length body in
    let h = head_of status close location n in
    let p = print_response h in
    let b = body_of status body in
    let count = length b in
    let text : head_text status close location body ≡ p = printed status close location body in
    let whole : bytes ++ more ≡ p ++ (b ++ more) = ap (λ t. t ++ more) is ∙ append_assoc (head_text status close location body) b more ∙ ap (λ t. t ++ (b ++ more)) text in
    let sized : length bytes ≡ length p + count = ap length is ∙ length-append (head_text status close location body) b ∙ ap (λ t. length t + count) text in
    let stands = front_has p (b ++ more) (subst (λ t. length t ≤ 16384) text (few_bytes status close location body within fit small)) (subst (λ t. line_feeds t < 66) text (few_lines status close location body within fit small)) in
    let rest : drop (length p) (bytes ++ more) ≡ b ++ more = ap (drop (length p)) whole ∙ drop_front p (b ++ more) in
    let taken : take count (drop (length p) (bytes ++ more)) ≡ b = ap (take count) rest ∙ take-append-le count b more (omega arith) ∙ take_all count b (omega arith) in
    record {
      head = read_response_head h;
      stands = record { head = h; rest = stands.0; reads = (is_head status close location n within fit small, ap front whole ∙ stands.1); is = refl };
      count = count;
      body = stated close (status == 204) n (content_type status) location small ∙ ap Ok (sym (body_length_is (status == 204) body));
      here = omega (arith, sized, length-append bytes more);
      all = sized;
      is = let made : ℕ → Option (List ℕ) → List ℕ → HttpResponse = λ s l b. record { status = s; location = l; body = b } in
          (λ i. made (sym (code_value status within) i) (sym (located close (status == 204) n (content_type status) location fit) i) (sym taken i));
    }
