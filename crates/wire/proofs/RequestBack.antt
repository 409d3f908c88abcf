-- A request that was written is read as the same, whatever follows.
use Rattle.std.proofs.Common.{◌≡◌, ◌<◌, ◌≤◌, ◌+◌, ◌^◌, ◌==◌, ℕ, List, [], ◌∷◌, ◌++◌, length, take, drop, map, All, reverse, option_and_then, ◌*◌, ◌/◌, ◌%◌, IsTrue, Bool, true, false, true≢false, cond, ◌&&◌, ◌-◌, nat_le, nat_lt, codes, decimal, Option, Some, None, Ok, Err, refl, ap, sym, ◌∙◌, subst, arith, append_assoc, append-nil, lit≤, length-append}
use Rattle.std.proofs.lemmas.Bool.Decides.{nat_tests}
use Rattle.std.proofs.lemmas.Grind.{reverse_onto}
use Rattle.std.proofs.lemmas.List.{drop-append-le, take-append-le, take_all, drop_all}
use Rattle.std.proofs.lemmas.List.Elements.{All-nil, All-cons, All-weaker, All-from_get_or, All-head, All-push, All-tail}
use Rattle.std.specs.Int.{IsInRange}
use Rattle.std.specs.List.{list_all}
use Rattle.std.proofs.lemmas.Bool.{and_parts, ne_eqb}
use Rattle.std.proofs.lemmas.Str.Parse.{digit_at}
use Rattle.std.proofs.lemmas.Fmt.{decimal_by_steps, decimal_is_IsNumeral, decimal_nonempty, length-decimal-le}
use Rattle.httparse.specs.Grammar.{AllPass, Field, IsField, IsRequestHead, IsToken, RequestHead, crlf, is_token_byte, is_ows, is_uri_byte, is_value_byte, print_request, skip_ows, trim_ows}
use Rattle.httparse.proofs.TrimLemmas.{trim_ows_space}
use Rattle.httparse.proofs.OnLiterals.{httparse_on_literals}
use Rattle.httparse.specs.Spans.{name_and_value}
use Rattle.wire.specs.Fields.{agree, body_length, judged, length_of, with_digit, with_digits}
use Rattle.wire.specs.Heads.{Begins, Whole}
use Rattle.wire.specs.Requests.{RequestLooks, read_request_head}
use Rattle.wire.specs.declared.message.HttpRequest.{HttpRequest}
use Rattle.wire.specs.declared.refusal.WireRefusal.TheVariants.{TooLong}
use Rattle.wire.specs.Front.{front, line_feeds}
use Rattle.wire.specs.Texts.{line, request_line, request_text}
use Rattle.wire.specs.ReadBack.{AreFit}
use Rattle.wire.proofs.Fronts.{front_has, line_feeds-append, line_feeds-cons}

-- a field as it is written
abbrev pub field : List ℕ → List ℕ → Field
field name value = record { name = name; raw = 32 ∷ value; end = crlf }

-- the head as it is written
abbrev pub head_of : List ℕ → List ℕ → ℕ → RequestHead
head_of host path n = record {
  blank = [];
  method = codes "POST";
  target = path;
  minor = 1;
  line_end = crlf;
  fields = field (codes "Content-Length") (decimal n) ∷ field (codes "Content-Type") (codes "application/json") ∷ field (codes "Host") host ∷ [];
  last = crlf;
}

pub token : (name : List ℕ) → 0 < length name → AllPass is_token_byte name → IsToken name
token name some all = (some, all)

pub valued : (name value : List ℕ) → IsToken name → AllPass is_value_byte value → IsField (field name value)
valued name value n v = record { name = n; raw = All-cons (λ b. IsTrue (is_value_byte b)) 32 value refl v }

pub digits_pass : (n : ℕ) → n < 2 ^ 64 → AllPass is_value_byte (decimal n)
digits_pass n fits = All-weaker (IsInRange 48 57) (λ b. IsTrue (is_value_byte b)) (λ b h. grind (arith, nat_tests)) (decimal n)
    (All-from_get_or (IsInRange 48 57) (decimal n) 0 (λ i h. digit_at (decimal n) i (decimal_is_IsNumeral n fits).0.1 h))

pub passing : (test : ℕ → Bool) (xs : List ℕ) → list_all test xs ≡ true → AllPass test xs
passing test [] e = All-nil (λ b. IsTrue (test b))
passing test (x ∷ xs) e = All-cons (λ b. IsTrue (test b)) x xs (and_parts _ _ e).0 (passing test xs (and_parts _ _ e).1)

pub is_head : (host path body : List ℕ) → AreFit host path body → IsRequestHead (head_of host path (length body))
unfolding httparse_on_literals
is_head host path body h = record {
  method = (omega arith, passing is_token_byte (codes "POST") refl);
  target = (h.path_some, h.path_bytes);
  target_text = h.path_text;
  minor = lit≤ tt;
  fields =
      let fb = field (codes "Content-Type") (codes "application/json") in
      let fc = field (codes "Host") host in
      let a = valued (codes "Content-Length") (decimal (length body)) (omega arith, passing is_token_byte (codes "Content-Length") refl) (digits_pass (length body) (omega (arith, h.body_short))) in
      let b = valued (codes "Content-Type") (codes "application/json") (omega arith, passing is_token_byte (codes "Content-Type") refl) (passing is_value_byte (codes "application/json") refl) in
      let c = valued (codes "Host") host (omega arith, passing is_token_byte (codes "Host") refl) h.host_bytes in
      All-cons IsField _ (fb ∷ fc ∷ []) a (All-cons IsField fb (fc ∷ []) b (All-cons IsField fc [] c (All-nil IsField)));
}

-- the text of the head, before its body
abbrev pub head_text : List ℕ → List ℕ → ℕ → List ℕ
head_text host path n = request_line path ++ line (codes "Content-Length") (decimal n) ++ line (codes "Content-Type") (codes "application/json") ++ line (codes "Host") host ++ codes "\r\n"

sections : (s a b c e : List ℕ) → (((s ++ a) ++ b) ++ c) ++ e ≡ s ++ ((a ++ (b ++ (c ++ []))) ++ e)
sections s a b c e = simp (append_assoc, append-nil)

start : (path : List ℕ) → request_line path ≡ ((codes "POST" ++ 32 ∷ path) ++ 32 ∷ codes "HTTP/1.1") ++ 13 ∷ 10 ∷ []
unfolding request_line
start path = sym (append_assoc (codes "POST " ++ path) (codes " HTTP/1.1") (13 ∷ 10 ∷ []))

pub printed : (host path : List ℕ) (n : ℕ) → head_text host path n ≡ print_request (head_of host path n)
unfolding print_request line
printed host path n =
    let a = line (codes "Content-Length") (decimal n) in
    let b = line (codes "Content-Type") (codes "application/json") in
    let c = line (codes "Host") host in
    sections (request_line path) a b c (codes "\r\n") ∙ ap (λ s. s ++ ((a ++ (b ++ (c ++ []))) ++ codes "\r\n")) (start path)

-- bytes among which is no line feed
pub no_feeds : (test : ℕ → Bool) (xs : List ℕ) → test 10 ≡ false → AllPass test xs → line_feeds xs ≡ 0
no_feeds test [] none h = refl
no_feeds test (x ∷ xs) none h =
    let here : test x ≡ true = All-head (λ b. IsTrue (test b)) x xs h in
    let other : (x == 10) ≡ false = ne_eqb x 10 (λ e. absurd (true≢false (sym here ∙ ap test e ∙ none))) in
    let more = no_feeds test xs none (All-tail (λ b. IsTrue (test b)) x xs h) in
    omega (arith, line_feeds-cons x xs, ap {B = ℕ} (λ t. cond t 1 0) other, more)

pub line_feeds-line : (name value : List ℕ) → line_feeds (line name value) ≡ line_feeds name + line_feeds value + 1
unfolding line
line_feeds-line name value =
    let one : line_feeds (13 ∷ 10 ∷ []) ≡ 1 = refl in
    let two : line_feeds (58 ∷ 32 ∷ value) ≡ line_feeds value = omega (arith, line_feeds-cons 58 (32 ∷ value), line_feeds-cons 32 value) in
    omega (arith, line_feeds-append (name ++ 58 ∷ 32 ∷ value) (13 ∷ 10 ∷ []), line_feeds-append name (58 ∷ 32 ∷ value), one, two)

pub length-line : (name value : List ℕ) → length (line name value) ≡ length name + length value + 4
unfolding line
length-line name value = omega (arith, length-append (name ++ 58 ∷ 32 ∷ value) (13 ∷ 10 ∷ []), length-append name (58 ∷ 32 ∷ value))

-- a head of a request is short
pub few_lines : (host path body : List ℕ) → AreFit host path body → line_feeds (head_text host path (length body)) < 66
unfolding request_line
few_lines host path body h =
    let d = decimal (length body) in
    let number : line_feeds d ≡ 0 = no_feeds is_value_byte d refl (digits_pass (length body) (omega (arith, h.body_short))) in
    let target : line_feeds path ≡ 0 = no_feeds is_uri_byte path refl h.path_bytes in
    let value : line_feeds host ≡ 0 = no_feeds is_value_byte host refl h.host_bytes in
    let r = request_line path in
    let a = line (codes "Content-Length") d in
    let b = line (codes "Content-Type") (codes "application/json") in
    let c = line (codes "Host") host in
    let ra : line_feeds r ≡ 1 = omega (arith, line_feeds-append (codes "POST " ++ path) (codes " HTTP/1.1\r\n"), line_feeds-append (codes "POST ") path, target) in
    omega (
      arith,
      line_feeds-append (((r ++ a) ++ b) ++ c) (codes "\r\n"),
      line_feeds-append ((r ++ a) ++ b) c,
      line_feeds-append (r ++ a) b,
      line_feeds-append r a,
      ra,
      line_feeds-line (codes "Content-Length") d,
      line_feeds-line (codes "Content-Type") (codes "application/json"),
      line_feeds-line (codes "Host") host,
      number,
      value,
    )

pub few_bytes : (host path body : List ℕ) → AreFit host path body → length (head_text host path (length body)) ≤ 16384
unfolding request_line
few_bytes host path body h =
    let d = decimal (length body) in
    let number : length d ≤ 20 = length-decimal-le 20 (length body) (omega arith) (omega (arith, h.body_short)) (omega (arith, h.body_short)) in
    let r = request_line path in
    let a = line (codes "Content-Length") d in
    let b = line (codes "Content-Type") (codes "application/json") in
    let c = line (codes "Host") host in
    let ra : length r ≡ length path + 16 = omega (arith, length-append (codes "POST " ++ path) (codes " HTTP/1.1\r\n"), length-append (codes "POST ") path) in
    omega (
      arith,
      length-append (((r ++ a) ++ b) ++ c) (codes "\r\n"),
      length-append ((r ++ a) ++ b) c,
      length-append (r ++ a) b,
      length-append r a,
      ra,
      length-line (codes "Content-Length") d,
      length-line (codes "Content-Type") (codes "application/json"),
      length-line (codes "Host") host,
      number,
      h.head_short,
    )

not_blank : (b : ℕ) → IsInRange 48 57 b → is_ows b ≡ false
not_blank b h = grind (arith, nat_tests)

skip_digits : (ds : List ℕ) → All (IsInRange 48 57) ds → skip_ows ds ≡ ds
skip_digits [] h = refl
skip_digits (b ∷ ds) h = ap (λ t. cond t (skip_ows ds) (b ∷ ds)) (not_blank b (All-head (IsInRange 48 57) b ds h))

all_digits : (n : ℕ) → n < 2 ^ 64 → All (IsInRange 48 57) (decimal n)
all_digits n fits = All-from_get_or (IsInRange 48 57) (decimal n) 0 (λ i h. digit_at (decimal n) i (decimal_is_IsNumeral n fits).0.1 h)

all_reverse : (xs : List ℕ) → All (IsInRange 48 57) xs → All (IsInRange 48 57) (reverse xs)
all_reverse [] h = h
all_reverse (x ∷ xs) h = subst (All (IsInRange 48 57)) (sym (reverse_onto xs x [])) (All-push (IsInRange 48 57) (reverse xs) x (all_reverse xs (All-tail (IsInRange 48 57) x xs h)) (All-head (IsInRange 48 57) x xs h))

-- a number stands in a field as it is written
pub trimmed_decimal : (n : ℕ) → n < 2 ^ 64 → trim_ows (32 ∷ decimal n) ≡ decimal n
trimmed_decimal n fits = trim_ows_space (decimal n) (skip_digits (decimal n) (all_digits n fits)) (skip_digits (reverse (decimal n)) (all_reverse (decimal n) (all_digits n fits)))

with_digits-append : (n d : ℕ) (ds : List ℕ) → with_digits n (ds ++ d ∷ []) ≡ option_and_then (λ m. with_digit m d) (with_digits n ds)
with_digits-append n d [] = by (with_digit n d) where
  by : (found : Option ℕ) → option_and_then (λ m. Some m) found ≡ found
  by None = refl
  by (Some m) = refl
with_digits-append n d (e ∷ ds) = by (with_digit n e) (λ m. with_digits-append m d ds) where
  by : (found : Option ℕ) → ((m : ℕ) → with_digits m (ds ++ d ∷ []) ≡ option_and_then (λ m. with_digit m d) (with_digits m ds))
      → option_and_then (λ m. with_digits m (ds ++ d ∷ [])) found ≡ option_and_then (λ m. with_digit m d) (option_and_then (λ m. with_digits m ds) found)
  by None more = refl
  by (Some m) more = more m

one_digit : (n d : ℕ) → d < 10 → n * 10 + d < 2 ^ 64 → with_digit n (48 + d) ≡ Some (n * 10 + d)
one_digit n d low fits =
    let same : 48 + d - 48 ≡ d = omega arith in
    let a : nat_le 48 (48 + d) ≡ true = grind (arith, nat_tests) in
    let b : nat_le (48 + d) 57 ≡ true = grind (arith, nat_tests) in
    let c : nat_lt (n * 10 + (48 + d - 48)) (2 ^ 64) ≡ true = grind (arith, nat_tests) in
    (λ i. cond (a i && b i && c i) (Some (n * 10 + same i)) None)

digits_read : (n : ℕ) → n < 2 ^ 64 → n < 2 ^ 64 → with_digits 0 (decimal n) ≡ Some n
digits_read = decimal_by_steps (λ n ds. n < 2 ^ 64 → with_digits 0 ds ≡ Some n)
    (λ n low fits. ap (option_and_then (λ more. Some more)) (one_digit 0 n low (omega arith)) ∙ ap {B = Option ℕ} (λ k. Some k) (none_before n))
    (λ n ds big h fits. with_digits-append 0 (48 + n % 10) ds ∙ ap (option_and_then (λ m. with_digit m (48 + n % 10))) (h (omega arith)) ∙ one_digit (n / 10) (n % 10) (omega arith) (omega arith) ∙ ap {B = Option ℕ} (λ k. Some k) (whole n)) where
      none_before : (n : ℕ) → 0 * 10 + n ≡ n
      none_before n = omega arith

      whole : (n : ℕ) → n / 10 * 10 + n % 10 ≡ n
      whole n = omega arith

-- a length that was written is read
pub length_reads : (n : ℕ) → n ≤ 1048576 → length_of (decimal n) ≡ Some n
length_reads n small =
    let fits : n < 2 ^ 64 = omega arith in
    let some : nat_le 1 (length (decimal n)) ≡ true = by_le 1 (length (decimal n)) (omega (arith, decimal_nonempty n fits)) in
    let few : nat_le (length (decimal n)) 10 ≡ true = by_le (length (decimal n)) 10 (length-decimal-le 10 n (omega arith) (omega arith) fits) in
    ap (λ t. cond t (with_digits 0 (decimal n)) None) (λ i. some i && few i) ∙ digits_read n fits fits where
      by_le : (a b : ℕ) → a ≤ b → nat_le a b ≡ true
      by_le a b le = grind (arith, nat_tests)

-- the fields say how long the body is
stated : (host : List ℕ) (n : ℕ) → n ≤ 1048576 → body_length (map name_and_value (head_of host [] n).fields) ≡ Ok n
unfolding body_length
stated host n small =
    let fits : n < 2 ^ 64 = omega arith in
    let small_is : nat_le n 1048576 ≡ true = grind (arith, nat_tests) in
    ap (λ v. judged (option_and_then (λ now. Some now) (option_and_then (agree None) (length_of v))) false) (trimmed_decimal n fits)
    ∙ ap (λ o. judged (option_and_then (λ now. Some now) (option_and_then (agree None) o)) false) (length_reads n small)
    ∙ ap (λ t. cond t (Ok n) (Err (TooLong false))) small_is

pub drop_front : (a b : List ℕ) → drop (length a) (a ++ b) ≡ b
drop_front a b = drop-append-le (length a) a b (omega arith) ∙ ap (λ t. t ++ b) (drop_all (length a) a (omega arith))

-- the text and what follows begin with that request
pub request_back : (host path body bytes more : List ℕ) → bytes ≡ request_text host path body → AreFit host path body
    → RequestLooks (bytes ++ more) (Whole (record { method = codes "POST"; path = path; body = body; close = false }) (length bytes))
unfolding Begins
request_back host path body bytes more is fit =
    let n = length body in
    let h = head_of host path n in
    let p = print_request h in
    let whole : bytes ++ more ≡ p ++ (body ++ more) = ap (λ t. t ++ more) is ∙ append_assoc (head_text host path n) body more ∙ ap (λ t. t ++ (body ++ more)) (printed host path n) in
    let sized : length bytes ≡ length p + n = ap length is ∙ length-append (head_text host path n) body ∙ ap (λ t. length t + n) (printed host path n) in
    let stands = front_has p (body ++ more) (subst (λ t. length t ≤ 16384) (printed host path n) (few_bytes host path body fit)) (subst (λ t. line_feeds t < 66) (printed host path n) (few_lines host path body fit)) in
    let rest : drop (length p) (bytes ++ more) ≡ body ++ more = ap (drop (length p)) whole ∙ drop_front p (body ++ more) in
    let taken : take n (drop (length p) (bytes ++ more)) ≡ body = ap (take n) rest ∙ take-append-le n body more (omega arith) ∙ take_all n body (omega arith) in
    record {
      head = read_request_head h;
      stands = record { head = h; rest = stands.0; reads = (is_head host path body fit, ap front whole ∙ stands.1); is = refl };
      count = n;
      body = stated host n fit.body_short;
      here = omega (arith, sized, length-append bytes more);
      all = sized;
      is = let made : List ℕ → HttpRequest = λ b. record { method = codes "POST"; path = path; body = b; close = false } in ap made (sym taken);
    }
