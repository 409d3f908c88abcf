-- The tokens of a text, with their commas and colons, take at most the text.
use Rattle.std.proofs.Common.{◌≡◌, ℕ, suc, ◌+◌, ◌-◌, ◌≤◌, Bool, true, false, List, [], ◌∷◌, length, refl, arith}
use Rattle.json.specs.Token.{Token}
use Rattle.json.specs.Print.{ends}
use Rattle.json.specs.Lex.{Lexeme, token, comma, colon, between, lex, Place, fresh, after_value, after_comma, after_key, begins_colon, may_begin, may_close, if_allowed, place_token, punctuate, tokens}
use Rattle.json_objects.proofs.TextSizes.{token_size, lexemes_size, lexemes_fit}

-- a comma, where a value stands before
abbrev pub comma_size : Bool → ℕ
comma_size true = 1
comma_size false = 0

-- a token with the comma before it
abbrev pub cost : Bool → Token → ℕ
cost later Token.begin_object = comma_size later + 1
cost later Token.end_object = 1
cost later Token.begin_array = comma_size later + 1
cost later Token.end_array = 1
cost later (Token.key s) = comma_size later + (length s + 3)
cost later (Token.string s) = comma_size later + (length s + 2)
cost later (Token.number s) = comma_size later + 1
cost later (Token.boolean b) = comma_size later + 1
cost later Token.null = comma_size later + 1
cost later Token.bad = 0

abbrev pub tokens_size : Bool → List Token → ℕ
tokens_size later [] = 0
tokens_size later (t ∷ ts) = cost later t + tokens_size (ends t) ts

-- whether a value stands before a place
abbrev after : Place → Bool
after fresh = false
after after_value = true
after after_comma = true
after after_key = false

-- what the tokens from a place on may take where its lexemes take so much: a comma before the place is counted with
-- them, and a colon after a key with the key
abbrev room : Place → ℕ → ℕ
room fresh n = n
room after_value n = n
room after_comma n = suc n
room after_key n = n - 1

begins_there : (p : Place) (t : Token) (next : Place) (k : Place → List Token) (n m : ℕ)
    → cost (after p) t ≤ comma_size (after p) + m → tokens_size (ends t) (k next) ≤ n
    → tokens_size (after p) (if_allowed (may_begin p) t k next) ≤ room p (m + n)
begins_there fresh t next k n m h l = omega (arith, h, l)
begins_there after_value t next k n m h l = omega arith
begins_there after_comma t next k n m h l = omega (arith, h, l)
begins_there after_key t next k n m h l = omega arith

closes_there : (p : Place) (t : Token) (next : Place) (k : Place → List Token) (n : ℕ) → cost (after p) t ≤ 1
    → tokens_size (ends t) (k next) ≤ n → tokens_size (after p) (if_allowed (may_close p) t k next) ≤ room p (1 + n)
closes_there fresh t next k n h l = omega (arith, h, l)
closes_there after_value t next k n h l = omega (arith, h, l)
closes_there after_comma t next k n h l = omega arith
closes_there after_key t next k n h l = omega arith

faulty : (p : Place) (n : ℕ) → tokens_size (after p) (Token.bad ∷ []) ≤ room p n
faulty p n = omega arith

-- a key, whose colon follows
key_there : (p : Place) (s : List ℕ) (k : Place → List Token) (n : ℕ) → 1 ≤ n
    → tokens_size false (k after_key) ≤ n - 1
    → tokens_size (after p) (if_allowed (may_begin p) (Token.key s) k after_key) ≤ room p (length s + 2 + n)
key_there fresh s k n h l = omega (arith, h, l)
key_there after_value s k n h l = omega arith
key_there after_comma s k n h l = omega (arith, h, l)
key_there after_key s k n h l = omega arith

token_there : (p : Place) (t : Token) (c : Bool) (ls : List Lexeme) → (c ≡ true → 1 ≤ lexemes_size ls)
    → ((q : Place) → tokens_size (after q) (punctuate q ls) ≤ room q (lexemes_size ls))
    → tokens_size (after p) (place_token p t c (λ q. punctuate q ls)) ≤ room p (token_size t + lexemes_size ls)
token_there p Token.begin_object c ls begins h =
    begins_there p Token.begin_object fresh (λ q. punctuate q ls) (lexemes_size ls) 1 (omega arith) (h fresh)
token_there p Token.end_object c ls begins h =
    closes_there p Token.end_object after_value (λ q. punctuate q ls) (lexemes_size ls) (omega arith) (h after_value)
token_there p Token.begin_array c ls begins h =
    begins_there p Token.begin_array fresh (λ q. punctuate q ls) (lexemes_size ls) 1 (omega arith) (h fresh)
token_there p Token.end_array c ls begins h =
    closes_there p Token.end_array after_value (λ q. punctuate q ls) (lexemes_size ls) (omega arith) (h after_value)
token_there p (Token.key s) c ls begins h = faulty p _
token_there p (Token.string s) true ls begins h =
    key_there p s (λ q. punctuate q ls) (lexemes_size ls) (begins refl) (h after_key)
token_there p (Token.string s) false ls begins h =
    begins_there p (Token.string s) after_value (λ q. punctuate q ls) (lexemes_size ls) (length s + 2) (omega arith)
    (h after_value)
token_there p (Token.number s) c ls begins h =
    begins_there p (Token.number s) after_value (λ q. punctuate q ls) (lexemes_size ls) 1 (omega arith)
    (h after_value)
token_there p (Token.boolean b) c ls begins h =
    begins_there p (Token.boolean b) after_value (λ q. punctuate q ls) (lexemes_size ls) 1 (omega arith)
    (h after_value)
token_there p Token.null c ls begins h =
    begins_there p Token.null after_value (λ q. punctuate q ls) (lexemes_size ls) 1 (omega arith) (h after_value)
token_there p Token.bad c ls begins h = faulty p _

colon_size : (ls : List Lexeme) → begins_colon ls ≡ true → 1 ≤ lexemes_size ls
colon_size [] e = absurd (cc)
colon_size (token t ∷ ls) e = absurd (cc)
colon_size (comma ∷ ls) e = absurd (cc)
colon_size (colon ∷ ls) e = omega arith

within_lexemes : (p : Place) (ls : List Lexeme) → tokens_size (after p) (punctuate p ls) ≤ room p (lexemes_size ls)
unfolding punctuate
within_lexemes fresh [] = omega arith
within_lexemes after_value [] = omega arith
within_lexemes after_comma [] = omega arith
within_lexemes after_key [] = omega arith
within_lexemes fresh (token t ∷ ls) =
    token_there fresh t (begins_colon ls) ls (colon_size ls) (λ q. within_lexemes q ls)
within_lexemes after_value (token t ∷ ls) =
    token_there after_value t (begins_colon ls) ls (colon_size ls) (λ q. within_lexemes q ls)
within_lexemes after_comma (token t ∷ ls) =
    token_there after_comma t (begins_colon ls) ls (colon_size ls) (λ q. within_lexemes q ls)
within_lexemes after_key (token t ∷ ls) =
    token_there after_key t (begins_colon ls) ls (colon_size ls) (λ q. within_lexemes q ls)
within_lexemes fresh (comma ∷ ls) = omega arith
within_lexemes after_value (comma ∷ ls) = let h = within_lexemes after_comma ls in omega (arith, h)
within_lexemes after_comma (comma ∷ ls) = omega arith
within_lexemes after_key (comma ∷ ls) = omega arith
within_lexemes fresh (colon ∷ ls) = omega arith
within_lexemes after_value (colon ∷ ls) = omega arith
within_lexemes after_comma (colon ∷ ls) = omega arith
within_lexemes after_key (colon ∷ ls) = let h = within_lexemes fresh ls in omega (arith, h)

pub tokens_fit : (text : List ℕ) → tokens_size false (tokens text) ≤ length text
tokens_fit text = let h = within_lexemes fresh (lex between text) in let l = lexemes_fit text in omega (arith, h, l)
