-- The lexemes of a text take at most the text.
use Rattle.std.proofs.Common.{◌≡◌, ℕ, suc, ◌+◌, ◌≤◌, Bool, true, false, cond, ◌&&◌, ◌==◌, nat_lt, List, [], ◌∷◌, length, Option, Some, None, IfSome, option_and_then, refl, sym, ap, ◌∙◌, arith}
use Rattle.std.proofs.lemmas.Bool.{true≢false, eqb-true, and_parts}
use Rattle.std.proofs.lemmas.List.{length-append}
use Rattle.std.specs.Char.{is_digit, encode_utf8}
use Rattle.json.specs.Token.{Token}
use Rattle.json.specs.Text.{code_unit, short_escape, is_high_surrogate, is_low_surrogate, surrogate_pair, Within, plain, after_backslash, after_u, after_high, prepend, content}
use Rattle.json.specs.Ascii as ascii
use Rattle.json.specs.Word.{head, is_operator, is_space, word, after_number, number_before, literal, ends_word}
use Rattle.json.specs.Lex.{Lexeme, token, comma, colon, Class, quote, backslash, operator, space, other, class, operator_lexeme, string_token, Mode, between, in_word, in_string, in_escape, lex_byte, lex}
use Rattle.json.specs.Align.{span_byte, span}

-- ---- sizes

-- how many bytes a token has at least
abbrev pub token_size : Token → ℕ
token_size Token.begin_object = 1
token_size Token.end_object = 1
token_size Token.begin_array = 1
token_size Token.end_array = 1
token_size (Token.key s) = length s + 3
token_size (Token.string s) = length s + 2
token_size (Token.number s) = 1
token_size (Token.boolean b) = 1
token_size Token.null = 1
token_size Token.bad = 0

abbrev pub lexeme_size : Lexeme → ℕ
lexeme_size (token t) = token_size t
lexeme_size comma = 1
lexeme_size colon = 1

abbrev pub lexemes_size : List Lexeme → ℕ
lexemes_size [] = 0
lexemes_size (l ∷ ls) = lexeme_size l + lexemes_size ls

-- ---- the content of a string

-- what was found, with a quote after it, is no longer than this
abbrev FitsQuoted : ℕ → Option (List ℕ) → Type 0
FitsQuoted n o = IfSome o (λ s. length s + 1 ≤ n)

-- the part of a text that its string takes, by what the string's byte is
passed : (q b o s : Bool) (k : Mode → ℕ)
    → span_byte in_string (cond q quote (cond b backslash (cond o operator (cond s space other)))) k ≡ cond q 1
    (cond b (1 + k in_escape) (1 + k in_string))
passed true b o s k = refl
passed false true o s k = refl
passed false false true s k = refl
passed false false false true k = refl
passed false false false false k = refl

spans : (x : ℕ) (xs : List ℕ) → span in_string (x ∷ xs) ≡ cond (x == 34) 1
    (cond (x == 92) (1 + span in_escape xs) (1 + span in_string xs))
unfolding span
spans x xs = passed (x == 34) (x == 92) (is_operator x) (is_space x) (λ n. span n xs)

escaped : (x : ℕ) (xs : List ℕ) → span in_escape (x ∷ xs) ≡ 1 + span in_string xs
unfolding span
escaped x xs = refl

-- a hexadecimal digit is no quote and no backslash
no_digit : (c x : ℕ) (t : Bool) → (t ≡ true → x ≡ c) → is_digit c 16 ≡ false → is_digit x 16 ≡ true → t ≡ false
no_digit c x false same never h = refl
no_digit c x true same never h = absurd (true≢false (sym h ∙ ap (λ y. is_digit y 16) (same refl) ∙ never))

digit_spans : (x : ℕ) (xs : List ℕ) → is_digit x 16 ≡ true → span in_string (x ∷ xs) ≡ 1 + span in_string xs
digit_spans x xs h =
    let q = no_digit 34 x (x == 34) (eqb-true x 34) refl h in
    let b = no_digit 92 x (x == 92) (eqb-true x 92) refl h in
    spans x xs ∙ (λ i. cond (q i) 1 (cond (b i) (1 + span in_escape xs) (1 + span in_string xs)))

-- four digits, where they are some
units : (t : Bool) (u : ℕ) (f : ℕ → Option (List ℕ)) (n : ℕ) → (t ≡ true → (v : ℕ) → FitsQuoted n (f v))
    → FitsQuoted n (option_and_then f (cond t (Some u) None))
units true u f n h = h refl u
units false u f n h = tt

all_four : (a b c d : Bool) → (a && b && c && d) ≡ true → (a ≡ true) × (b ≡ true) × (c ≡ true) × (d ≡ true)
all_four true true true true h = (refl, refl, refl, refl)
all_four true true true false h = absurd (cc)
all_four true true false d h = absurd (cc)
all_four true false c d h = absurd (cc)
all_four false b c d h = absurd (cc)

four_span : (a b c d : ℕ) (xs : List ℕ) → (is_digit a 16 && is_digit b 16 && is_digit c 16 && is_digit d 16) ≡ true
    → span in_string (a ∷ b ∷ c ∷ d ∷ xs) ≡ 4 + span in_string xs
four_span a b c d xs h =
    let each = all_four (is_digit a 16) (is_digit b 16) (is_digit c 16) (is_digit d 16) h in
    let first = digit_spans a (b ∷ c ∷ d ∷ xs) each.0 in
    let second = digit_spans b (c ∷ d ∷ xs) each.1 in
    let third = digit_spans c (d ∷ xs) each.2 in
    let fourth = digit_spans d xs each.3 in
    omega (arith, first, second, third, fourth)

character_size : (u : ℕ) → length (encode_utf8 u) ≤ 4
unfolding encode_utf8
character_size u = grind arith

more_bytes : (n m : ℕ) (bytes : List ℕ) (o : Option (List ℕ)) → FitsQuoted m o → length bytes + m ≤ n
    → FitsQuoted n (prepend bytes o)
more_bytes n m bytes None h le = tt
more_bytes n m bytes (Some s) h le = omega (arith, length-append bytes s, h, le)

wider : (n m : ℕ) (o : Option (List ℕ)) → FitsQuoted m o → m ≤ n → FitsQuoted n o
wider n m None h le = tt
wider n m (Some s) h le = omega (arith, h, le)

if_one : (n : ℕ) (t : Bool) (x y : Option (List ℕ)) → (t ≡ true → FitsQuoted n x) → (t ≡ false → FitsQuoted n y)
    → FitsQuoted n (cond t x y)
if_one n true x y f g = f refl
if_one n false x y f g = g refl

any_one : (n : ℕ) (f : ℕ → Option (List ℕ)) (o : Option ℕ) → ((u : ℕ) → FitsQuoted n (f u))
    → FitsQuoted n (option_and_then f o)
any_one n f None h = tt
any_one n f (Some u) h = h u

-- one byte of a string
plain_byte : (q b c : Bool) (x n m : ℕ) (after rest : Option (List ℕ)) → FitsQuoted n after → FitsQuoted m rest
    → FitsQuoted (cond q 1 (cond b (1 + n) (1 + m)))
    (cond q (Some []) (cond b after (cond c None (prepend (x ∷ []) rest))))
plain_byte true b c x n m after rest h k = omega arith
plain_byte false true c x n m after rest h k = wider (1 + n) n after h (omega arith)
plain_byte false false true x n m after rest h k = tt
plain_byte false false false x n m after rest h k = more_bytes (1 + m) m (x ∷ []) rest k (omega arith)

abbrev mode : Within → Mode
mode plain = in_string
mode after_backslash = in_escape
mode after_u = in_string
mode (after_high h) = in_string

content_size : (w : Within) (xs : List ℕ) → FitsQuoted (span (mode w) xs) (content w xs)
unfolding content code_unit
content_size plain [] = tt
content_size plain (x ∷ xs) =
    rw (spans x xs) (plain_byte (x == 34) (x == 92) (nat_lt x 32) x (span in_escape xs) (span in_string xs)
    (content after_backslash xs) (content plain xs) (content_size after_backslash xs) (content_size plain xs))
content_size after_backslash [] = tt
content_size after_backslash (x ∷ xs) =
    let e = escaped x xs in
    if_one (span in_escape (x ∷ xs)) (x == 117) _ _
    (λ t. wider (span in_escape (x ∷ xs)) (span in_string xs) (content after_u xs) (content_size after_u xs)
    (omega (arith, e)))
    (λ t. any_one (span in_escape (x ∷ xs)) _ (short_escape x)
    (λ c. more_bytes (span in_escape (x ∷ xs)) (span in_string xs) (c ∷ []) (content plain xs)
    (content_size plain xs) (omega (arith, e))))
content_size after_u [] = tt
content_size after_u (a ∷ []) = tt
content_size after_u (a ∷ b ∷ []) = tt
content_size after_u (a ∷ b ∷ c ∷ []) = tt
content_size after_u (a ∷ b ∷ c ∷ d ∷ xs) =
    let n = span in_string (a ∷ b ∷ c ∷ d ∷ xs) in
    units (is_digit a 16 && is_digit b 16 && is_digit c 16 && is_digit d 16) _ _ n
    (λ t v. let e = four_span a b c d xs t in
    if_one n (is_high_surrogate v) _ _
    (λ high. wider n (span in_string xs) (content (after_high v) xs) (content_size (after_high v) xs)
    (omega (arith, e)))
    (λ high. if_one n (is_low_surrogate v) _ _ (λ low. tt)
    (λ low. more_bytes n (span in_string xs) (encode_utf8 v) (content plain xs) (content_size plain xs)
    (omega (arith, e, character_size v)))))
content_size (after_high h) [] = tt
content_size (after_high h) (s ∷ []) = tt
content_size (after_high h) (s ∷ u ∷ []) = tt
content_size (after_high h) (s ∷ u ∷ a ∷ []) = tt
content_size (after_high h) (s ∷ u ∷ a ∷ b ∷ []) = tt
content_size (after_high h) (s ∷ u ∷ a ∷ b ∷ c ∷ []) = tt
content_size (after_high h) (s ∷ u ∷ a ∷ b ∷ c ∷ d ∷ xs) =
    let n = span in_string (s ∷ u ∷ a ∷ b ∷ c ∷ d ∷ xs) in
    if_one n ((s == 92) && (u == 117)) _ _
    (λ t. units (is_digit a 16 && is_digit b 16 && is_digit c 16 && is_digit d 16) _ _ n (λ f v.
    let e = four_span a b c d xs f in
    let first = backslash_spans s (u ∷ a ∷ b ∷ c ∷ d ∷ xs) (eqb-true s 92 (and_parts (s == 92) (u == 117) t).0) in
    let second = escaped u (a ∷ b ∷ c ∷ d ∷ xs) in
    if_one n (is_low_surrogate v) _ _
    (λ low. more_bytes n (span in_string xs) (encode_utf8 (surrogate_pair h v)) (content plain xs)
    (content_size plain xs) (omega (arith, e, first, second, character_size (surrogate_pair h v))))
    (λ low. tt))) (λ t. tt)
  where
    backslash_spans : (s : ℕ) (xs : List ℕ) → s ≡ 92 → span in_string (s ∷ xs) ≡ 1 + span in_escape xs
    backslash_spans s xs e = ap (λ y. span in_string (y ∷ xs)) e ∙ spans 92 xs

-- ---- the lexemes

-- a lexeme of a byte
record Small (l : Lexeme) : Type 0 where
  few : lexeme_size l ≤ 1

small_one : (t : Bool) (x y : Lexeme) → Small x → Small y → Small (cond t x y)
small_one true x y h k = h
small_one false x y h k = k

small_token : (t : Bool) (x y : Token) → Small (token x) → Small (token y) → Small (token (cond t x y))
small_token true x y h k = h
small_token false x y h k = k

number_small : (text : List ℕ) (rest : Option (List ℕ)) → Small (token (number_before text rest))
number_small text None = record { few = omega arith }
number_small text (Some rest) =
    small_token (ends_word rest) _ _ (record { few = omega arith }) (record { few = omega arith })

literal_small : (name : List ℕ) (t : Token) (text : List ℕ) → Small (token t) → Small (token (literal name t text))
literal_small name t text h = small_token _ t Token.bad h (record { few = omega arith })

word_small : (text : List ℕ) → Small (token (word text))
unfolding word
word_small text =
    small_token (head text == ascii.lower_t) _ _
    (literal_small ascii.true_text (Token.boolean true) text (record { few = omega arith }))
    (small_token (head text == ascii.lower_f) _ _
    (literal_small ascii.false_text (Token.boolean false) text (record { few = omega arith }))
    (small_token (head text == ascii.lower_n) _ _
    (literal_small ascii.null_text Token.null text (record { few = omega arith }))
    (number_small text (after_number text))))

operator_small : (x : ℕ) → Small (operator_lexeme x)
operator_small x =
    small_one _ (token Token.begin_object) _ (record { few = omega arith })
    (small_one _ (token Token.end_object) _ (record { few = omega arith })
    (small_one _ (token Token.begin_array) _ (record { few = omega arith })
    (small_one _ (token Token.end_array) _ (record { few = omega arith })
    (small_one _ comma colon (record { few = omega arith }) (record { few = omega arith })))))

string_small : (o : Option (List ℕ)) (n : ℕ) → FitsQuoted n o → token_size (string_token o) ≤ 1 + n
string_small None n h = omega arith
string_small (Some s) n h = omega (arith, h)

-- one byte
byte_size : (m : Mode) (c : Class) (x : ℕ) (xs : List ℕ)
    → ((n : Mode) → lexemes_size (lex n xs) + span n xs ≤ length xs)
    → lexemes_size (lex_byte m c x xs (λ n. lex n xs)) + span_byte m c (λ n. span n xs) ≤ suc (length xs)
byte_size between quote x xs h =
    let k = string_small (content plain xs) (span in_string xs) (content_size plain xs) in
    omega (arith, h in_string, k)
byte_size between backslash x xs h = omega (arith, h in_word)
byte_size between operator x xs h = omega (arith, h between, (operator_small x).few)
byte_size between space x xs h = omega (arith, h between)
byte_size between other x xs h = omega (arith, h in_word, (word_small (x ∷ xs)).few)
byte_size in_word quote x xs h = omega (arith, h in_word)
byte_size in_word backslash x xs h = omega (arith, h in_word)
byte_size in_word operator x xs h = omega (arith, h between, (operator_small x).few)
byte_size in_word space x xs h = omega (arith, h between)
byte_size in_word other x xs h = omega (arith, h in_word)
byte_size in_string quote x xs h = omega (arith, h between)
byte_size in_string backslash x xs h = omega (arith, h in_escape)
byte_size in_string operator x xs h = omega (arith, h in_string)
byte_size in_string space x xs h = omega (arith, h in_string)
byte_size in_string other x xs h = omega (arith, h in_string)
byte_size in_escape c x xs h = omega (arith, h in_string)

within_text : (m : Mode) (xs : List ℕ) → lexemes_size (lex m xs) + span m xs ≤ length xs
unfolding lex span
within_text m [] = omega arith
within_text m (x ∷ xs) = byte_size m (class x) x xs (λ n. within_text n xs)

pub lexemes_fit : (text : List ℕ) → lexemes_size (lex between text) ≤ length text
lexemes_fit text = let h = within_text between text in omega (arith, h)
