-- The Location of a reference names that reference.
use Rattle.std.proofs.Common.{◌≡◌, ◌≢◌, ℕ, ◌+◌, ◌-◌, ◌/◌, ◌%◌, ◌<◌, ◌≤◌, ◌^◌, Bool, true, false, not, ◌&&◌, ◌||◌, ◌==◌, nat_le, List, [], ◌∷◌, ◌++◌, length, get_or, drop, Some, None, Ok, All, sym, refl, ap, ◌∙◌, arith, append-nil, take_all, codes, decimal}
use Rattle.std.specs.Prelude.{reverse, option_map, option_and_then}
use Rattle.std.specs.List.{prefix_len, list_all}
use Rattle.std.specs.Int.{IsInRange}
use Rattle.std.specs.Char.{is_ascii_alphanumeric, is_ascii_digit}
use Rattle.std.proofs.lemmas.Fmt.{decimal_by_steps, decimal_is_IsNumeral}
use Rattle.std.proofs.lemmas.Bool.{cond-false, lt-leb, and_parts}
use Rattle.std.proofs.lemmas.Bool.Decides.{nat_tests}
use Rattle.std.proofs.lemmas.List.{get_or-reverse, length-reverse}
use Rattle.std.proofs.Math.Nat.{sub-zero}
use Rattle.std.proofs.lemmas.List.Elements.{All-nil, All-cons, All-head, All-append, All-weaker}
use Rattle.percent_encoding.specs.Percent.{IsKept}
use Rattle.url.specs.declared.sets.TheConstants.{PATH}
use Rattle.url.specs.declared.scheme.SchemeType.TheVariants.{SpecialNotFile}
use Rattle.url.specs.Input.{is_c0_control_or_space, is_tab_or_new_line, trim_c0_control_and_space, strip_tabs_and_new_lines, split_once}
use Rattle.url.specs.Path.{dot_count, dot_len, parse_path, IsSegment, IsSegmentList}
use Rattle.url.specs.Parser.{parse_by_scheme, parse_url, split_scheme, parse_parts, parse_body, parse_relative, leading_slashes}
use Rattle.url.specs.Scheme.{scheme_len, scheme_type, default_port}
use Rattle.url.specs.Parts.{Parts}
use Rattle.url.proofs.InputLemmas.{IsNot, Passes, split_once_none, filter_all, All_from_list_all, is_empty_nonempty}
use Rattle.url.proofs.SetLemmas.{kept_from_passes}
use Rattle.url.proofs.HostRoundTrip.{All-decimal}
use Rattle.url.proofs.RoundTrip.{parse_after_slash, stays_unless_file}
use Rattle.rows.specs.Number.{is_numeral}
use Rattle.charging_json.specs.Location.{base, parsed, path_of, collection, below_collection, reference_in, reference_of, location_text}

-- ---- nothing is trimmed or stripped

abbrev IsPrintable : ℕ → Type 0
IsPrintable b = 32 ≤ b

none_at_front : (xs : List ℕ) → (0 < length xs → 32 < get_or xs 0 0) → prefix_len is_c0_control_or_space xs ≡ 0
none_at_front [] first = refl
none_at_front (x ∷ xs) first = cond-false _ _ _ (lt-leb x 32 (first (omega arith)))

untrimmed : (xs : List ℕ) → All IsPrintable xs → get_or xs 0 0 ≢ 32 → get_or xs (length xs - 1) 0 ≢ 32 → trim_c0_control_and_space xs ≡ xs
unfolding trim_c0_control_and_space
untrimmed xs printable first last =
    let start = none_at_front xs (λ inside. omega (arith, printable 0 0 inside)) in
    let len = length-reverse xs in
    let end = none_at_front (reverse xs) (λ inside. rw (get_or-reverse xs 0 0 (omega arith), sub-zero) (omega (arith, printable (length xs - 1) 0 (omega arith)))) in
    rw (start, end) (take_all _ xs (omega arith))

unstripped : (xs : List ℕ) → All IsPrintable xs → strip_tabs_and_new_lines xs ≡ xs
unfolding strip_tabs_and_new_lines
unstripped xs printable =
    filter_all _ xs (All-weaker IsPrintable (Passes (λ b. not (is_tab_or_new_line b))) (λ b above. grind (arith, nat_tests)) xs printable)

-- ---- letters, digits and hyphens

abbrev is_plain : ℕ → Bool
is_plain b = is_ascii_alphanumeric b || b == 45

no_dots : (s : List ℕ) → All (Passes is_plain) s → dot_len s ≡ 0
no_dots [] all = refl
no_dots (b ∷ s) all = let passes = All-head (Passes is_plain) b s all in
    let dot : (b == 46) ≡ false = grind (arith, nat_tests) in
    let percent : (b == 37) ≡ false = grind (arith, nat_tests) in
    rw (dot, percent) refl

segment_of : (s : List ℕ) → All (Passes is_plain) s → IsSegment SpecialNotFile s
unfolding dot_count
segment_of s all = record {
  escaped = All-weaker (Passes is_plain) (IsKept PATH) (λ b p. kept_from_passes is_plain PATH refl b (grind (arith, nat_tests)) p) s all;
  whole = All-weaker (Passes is_plain) (λ b. (b == 47 || (b == 92 && true)) ≡ false) (λ b p. grind (arith, nat_tests)) s all;
  resolved = rw (no_dots s all) refl;
}

-- ---- the product's own paths

abbrev is_path_byte : ℕ → Bool
is_path_byte b = is_plain b || b == 47

segments : (d : List ℕ) → All (Passes is_plain) d → IsSegmentList SpecialNotFile (collection ++ d)
segments d all = record {
  segments = codes "nchf-convergedcharging" ∷ codes "v3" ∷ codes "chargingdata" ∷ d ∷ [];
  joined = ap (λ t. collection ++ t) (sym (append-nil d));
  each =
      let S = IsSegment SpecialNotFile in
      let a = segment_of (codes "nchf-convergedcharging") (All_from_list_all is_plain (codes "nchf-convergedcharging") refl) in
      let b = segment_of (codes "v3") (All_from_list_all is_plain (codes "v3") refl) in
      let c = segment_of (codes "chargingdata") (All_from_list_all is_plain (codes "chargingdata") refl) in
      let last = All-cons S d [] (segment_of d all) (All-nil S) in
      let third = All-cons S (codes "chargingdata") (d ∷ []) c last in
      let second = All-cons S (codes "v3") (codes "chargingdata" ∷ d ∷ []) b third in
      All-cons S (codes "nchf-convergedcharging") (codes "v3" ∷ codes "chargingdata" ∷ d ∷ []) a second;
}

at_path : List ℕ → Parts
at_path path = record { scheme = codes "http"; username = []; password = []; host = base.host; port = None; path = path; query = None; fragment = None }

by_parts : (d : List ℕ) → parse_by_scheme (split_scheme (collection ++ d)) (Some base) (collection ++ d) None None ≡ Ok (at_path (parse_path SpecialNotFile [] (drop 1 (collection ++ d))))
unfolding at_path split_scheme scheme_len parse_parts parse_body parse_relative leading_slashes scheme_type default_port
by_parts d = cond-false _ _ (Ok (at_path (parse_path SpecialNotFile [] (drop 1 (collection ++ d))))) (is_empty_nonempty (collection ++ d) (omega arith))

path_bytes : (d : List ℕ) → All (Passes is_plain) d → All (Passes is_path_byte) (collection ++ d)
path_bytes d all =
    All-append (Passes is_path_byte) collection d (All_from_list_all is_path_byte collection refl) (All-weaker (Passes is_plain) (Passes is_path_byte) (λ b p. grind (arith, nat_tests)) d all)

pub own_path : (d : List ℕ) → All (Passes is_plain) d → path_of (collection ++ d) ≡ Some (collection ++ d)
unfolding parse_url at_path
own_path d all =
    let bytes = path_bytes d all in
    let p = collection ++ d in
    let printable = All-weaker (Passes is_path_byte) IsPrintable (λ b h. grind (arith, nat_tests)) p bytes in
    let no_space = All-weaker (Passes is_path_byte) (IsNot 32) (λ b h e. grind (arith, nat_tests)) p bytes in
    let no_hash = All-weaker (Passes is_path_byte) (IsNot 35) (λ b h e. grind (arith, nat_tests)) p bytes in
    let no_question = All-weaker (Passes is_path_byte) (IsNot 63) (λ b h e. grind (arith, nat_tests)) p bytes in
    let long : 0 < length p = omega arith in
    let clean = ap strip_tabs_and_new_lines (untrimmed p printable (no_space 0 0 long) (no_space (length p - 1) 0 (omega arith))) ∙ unstripped p printable in
    let hash = ap (split_once 35) clean ∙ split_once_none 35 p no_hash in
    let question = ap (λ r. split_once 63 r.0) hash ∙ split_once_none 63 p no_question in
    let path = parse_after_slash SpecialNotFile p (stays_unless_file SpecialNotFile [] _ refl) (segments d all) long in
    let whole : parse_url (Some base) p ≡ Ok (at_path p) =
    (λ i. parse_by_scheme (split_scheme (question i).0) (Some base) (question i).0 (question i).1 (hash i).1)
    ∙ by_parts d ∙ ap (λ x. Ok (at_path x)) path in
    ap (λ r. option_map (λ url. url.path) (parsed r)) whole

pub own_location : (n : ℕ) → n < 2 ^ 64 → path_of (collection ++ decimal n) ≡ Some (collection ++ decimal n)
own_location n fits = own_path (decimal n) (All-weaker (λ b. IsInRange 48 57 b) (Passes is_plain) (λ b h. grind (arith, nat_tests)) (decimal n) (All-decimal n fits))

-- ---- the digits of a reference

-- digits, the first of which is no zero unless the number is zero
record IsShortest (n : ℕ) (text : List ℕ) : Type 0 where
  digits : list_all is_ascii_digit text ≡ true
  some : 0 < length text
  first : 1 ≤ n → (get_or text 0 0 == 48) ≡ false

one_digit : (n : ℕ) → n < 10 → IsShortest n ((48 + n) ∷ [])
one_digit n h = record { digits = grind (arith, nat_tests); some = omega arith; first = λ low. grind (arith, nat_tests, low) }

digits_more : (text : List ℕ) (d : ℕ) → d < 10 → list_all is_ascii_digit text ≡ true → list_all is_ascii_digit (text ++ (48 + d) ∷ []) ≡ true
digits_more [] d h all = grind (arith, nat_tests)
digits_more (b ∷ text) d h all = let both = and_parts (is_ascii_digit b) (list_all is_ascii_digit text) all in rw (both.0, digits_more text d h both.1) refl

first_more : (text rest : List ℕ) → 0 < length text → get_or (text ++ rest) 0 0 ≡ get_or text 0 0
first_more [] rest h = absurd (omega arith)
first_more (b ∷ text) rest h = refl

length_more : (text rest : List ℕ) → 0 < length text → 0 < length (text ++ rest)
length_more [] rest h = absurd (omega arith)
length_more (b ∷ text) rest h = omega arith

one_more_digit : (n : ℕ) (text : List ℕ) → 10 ≤ n → IsShortest (n / 10) text → IsShortest n (text ++ ((48 + n % 10) ∷ []))
one_more_digit n text big h = record {
  digits = digits_more text (n % 10) (omega arith) h.digits;
  some = length_more text _ h.some;
  first = λ low. ap (λ b. b == 48) (first_more text _ h.some) ∙ h.first (omega arith);
}

shortest : (n : ℕ) → n < 2 ^ 64 → IsShortest n (decimal n)
shortest = decimal_by_steps IsShortest one_digit one_more_digit

numeral_of : (n : ℕ) (text : List ℕ) → 1 ≤ n → IsShortest n text → is_numeral text ≡ true
numeral_of n [] low h = absurd (omega (arith, h.some))
numeral_of n (b ∷ []) low h = h.digits
numeral_of n (b ∷ c ∷ rest) low h = rw (h.first low, h.digits) refl

pub reference_reads : (n : ℕ) → 1 ≤ n → n ≤ 4294967295 → reference_in (decimal n) ≡ Some n
reference_reads n low high =
    let fits : n < 2 ^ 64 = omega arith in
    let numeral = numeral_of n (decimal n) low (shortest n fits) in
    let value = (decimal_is_IsNumeral n fits).1 in
    let test : nat_le n 4294967295 ≡ true = grind (arith, nat_tests, high) in
    let above : nat_le 1 n ≡ true = grind (arith, nat_tests, low) in
    rw (numeral, value, test, above) refl

below : (text : List ℕ) → below_collection (collection ++ text) ≡ Some text
below text = refl

pub location_back : (n : ℕ) → 1 ≤ n → n ≤ 4294967295 → reference_of (location_text n) ≡ Some n
location_back n low high =
    ap (λ path. option_and_then reference_in (option_and_then below_collection path)) (own_location n (omega arith)) ∙ ap (option_and_then reference_in) (below (decimal n)) ∙ reference_reads n low high
