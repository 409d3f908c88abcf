-- Bytes that end within the line of a field become a head with two line feeds more.
use Rattle.std.proofs.Common.{◌≡◌, ◌≢◌, ℕ, zero, suc, ◌+◌, ◌<◌, ⊎_elim, List, [], ◌∷◌, ◌++◌, codes, length, take, drop, get_or, All, IsTrue, Bool, true, false, not, ◌==◌, refl, sym, ◌∙◌, ap, subst, arith, append_assoc, ◌-◌}
use Rattle.std.specs.List.{flat_map, list_all}
use Rattle.std.specs.Prelude.{⊤}
use Rattle.std.proofs.lemmas.List.{append-nil}
use Rattle.std.proofs.lemmas.Grind.{flat_map-append}
use Rattle.std.proofs.lemmas.List.Elements.{All-nil, All-cons, All-head, All-tail, All-append}
use Rattle.std.proofs.lemmas.Bool.{and_parts, eq-eqb}
use Rattle.httparse.specs.Grammar.{AllPass, Field, IsField, IsToken, LineEnd, crlf, lf, is_token_byte, is_value_byte, print_blank, print_end, print_field, print_section, print_version}
use Rattle.httparse.proofs.OnLiterals.{httparse_on_literals}
use Rattle.wire.specs.FieldLines.{IsFieldPart}

-- the bytes begin with no empty line, and behind a line feed they end with some of a field's line
pub record EndsInField (bytes : List ℕ) (at : ℕ) : Type 0 where
  pub some : 0 < at
  pub feed : get_or bytes (at - 1) 0 ≡ 10
  pub return : get_or bytes 0 0 ≢ 13
  pub blank : get_or bytes 0 0 ≢ 10
  pub part : IsFieldPart (drop at bytes)

-- no line feed among these
abbrev pub NoFeed : List ℕ → Type 0
NoFeed bytes = All (λ b. b ≢ 10) bytes

-- bytes that end with a line feed, or none
abbrev pub Ended : List ℕ → Type 0
Ended [] = ⊤
Ended (b ∷ []) = b ≡ 10
Ended (b ∷ (c ∷ bytes)) = Ended (c ∷ bytes)

heads : (a b : ℕ) (x y : List ℕ) → a ∷ x ≡ b ∷ y → a ≡ b
heads a b x y e = cc

tails : (a b : ℕ) (x y : List ℕ) → a ∷ x ≡ b ∷ y → x ≡ y
tails a b x y e = cc

ended_tail : (b : ℕ) (bytes : List ℕ) → Ended (b ∷ bytes) → Ended bytes
ended_tail b [] ended = tt
ended_tail b (c ∷ bytes) ended = ended

-- bytes that end with a line feed have the whole of the line that they begin with
pub after_line : (line tail : List ℕ) (p : ℕ) (P X : List ℕ) → NoFeed line → Ended (p ∷ P) → (p ∷ P) ++ X ≡ line ++ 10 ∷ tail → (Q : List ℕ) × (p ∷ P ≡ line ++ 10 ∷ Q) × Ended Q × (Q ++ X ≡ tail)
after_line [] tail p P X none ended e = (P, ap (λ b. b ∷ P) (heads p 10 (P ++ X) tail e), ended_tail p P ended, tails p 10 (P ++ X) tail e)
after_line (l ∷ line) tail p [] X none ended e = absurd (All-head (λ b. b ≢ 10) l line none (sym (heads p l X (line ++ 10 ∷ tail) e) ∙ ended))
after_line (l ∷ line) tail p (q ∷ P) X none ended e =
    let r = after_line line tail q P X (All-tail (λ b. b ≢ 10) l line none) ended (tails p l ((q ∷ P) ++ X) (line ++ 10 ∷ tail) e) in
    (r.0, ap (λ b. b ∷ (q ∷ P)) (heads p l ((q ∷ P) ++ X) (line ++ 10 ∷ tail) e) ∙ ap (λ t. l ∷ t) r.1, r.2, r.3)

-- where bytes without a line feed follow, a line ends before them
pub line_before : (line P L rest : List ℕ) → NoFeed L → P ++ L ≡ (line ++ 10 ∷ []) ++ rest → (more : List ℕ) × (P ≡ (line ++ 10 ∷ []) ++ more)
line_before line [] [] rest none e = absurd (no_line line rest e)
  where
    no_line : (line rest : List ℕ) → [] ≡ (line ++ 10 ∷ []) ++ rest → ⊥
    no_line [] rest e = cc
    no_line (l ∷ line) rest e = cc
line_before [] [] (l ∷ L) rest none e = absurd (All-head (λ b. b ≢ 10) l L none (heads l 10 L rest e))
line_before (m ∷ line) [] (l ∷ L) rest none e =
    let r = line_before line [] L rest (All-tail (λ b. b ≢ 10) l L none) (tails l m L ((line ++ 10 ∷ []) ++ rest) e) in
    absurd (not_there line r.0 r.1)
  where
    not_there : (line more : List ℕ) → [] ≡ (line ++ 10 ∷ []) ++ more → ⊥
    not_there [] more e = cc
    not_there (l ∷ line) more e = cc
line_before [] (p ∷ P) L rest none e = (P, ap (λ b. b ∷ P) (heads p 10 (P ++ L) rest e))
line_before (m ∷ line) (p ∷ P) L rest none e =
    let r = line_before line P L rest none (tails p m (P ++ L) ((line ++ 10 ∷ []) ++ rest) e) in
    (r.0, ap (λ b. b ∷ P) (heads p m (P ++ L) ((line ++ 10 ∷ []) ++ rest) e) ∙ ap (λ t. m ∷ t) r.1)

-- what stands before the line feed of a line's end
abbrev pub before_feed : LineEnd → List ℕ
before_feed crlf = 13 ∷ []
before_feed lf = []

pub end_is : (end : LineEnd) → print_end end ≡ before_feed end ++ 10 ∷ []
end_is crlf = refl
end_is lf = refl

pub none_before : (end : LineEnd) → NoFeed (before_feed end)
none_before crlf = All-cons (λ b. b ≢ 10) 13 [] (λ e. cc) (All-nil (λ b. b ≢ 10))
none_before lf = All-nil (λ b. b ≢ 10)

-- bytes that pass a test which a line feed does not
pub pass_no_feed : (test : ℕ → Bool) (bytes : List ℕ) → test 10 ≡ false → AllPass test bytes → NoFeed bytes
pass_no_feed test [] feed all = All-nil (λ b. b ≢ 10)
pass_no_feed test (b ∷ bytes) feed all =
    All-cons (λ b. b ≢ 10) b bytes (λ is. let bad : true ≡ false = sym (All-head (λ b. IsTrue (test b)) b bytes all) ∙ ap test is ∙ feed in cc) (pass_no_feed test bytes feed (All-tail (λ b. IsTrue (test b)) b bytes all))

no_feed_token : is_token_byte 10 ≡ false
unfolding is_token_byte
no_feed_token = refl

pub token_no_feed : (bytes : List ℕ) → AllPass is_token_byte bytes → NoFeed bytes
token_no_feed bytes all = pass_no_feed is_token_byte bytes no_feed_token all

pub value_no_feed : (bytes : List ℕ) → AllPass is_value_byte bytes → NoFeed bytes
value_no_feed bytes all = pass_no_feed is_value_byte bytes refl all

-- bytes that are known
pub feedless : (bytes : List ℕ) → list_all (λ b. not (b == 10)) bytes ≡ true → NoFeed bytes
feedless [] is = All-nil (λ b. b ≢ 10)
feedless (b ∷ bytes) is =
    let both = and_parts (not (b == 10)) (list_all (λ b. not (b == 10)) bytes) is in
    All-cons (λ b. b ≢ 10) b bytes (λ feed. let bad : false ≡ true = sym (ap not (eq-eqb b 10 feed)) ∙ both.0 in cc) (feedless bytes both.1)

pub no_feed_append : (a b : List ℕ) → NoFeed a → NoFeed b → NoFeed (a ++ b)
no_feed_append a b x y = All-append (λ b. b ≢ 10) a b x y

pub part_no_feed : (line : List ℕ) → IsFieldPart line → NoFeed line
part_no_feed line part = ⊎_elim (λ name. token_no_feed line name)
    (λ p. subst NoFeed (sym p.4) (no_feed_append p.0 (58 ∷ p.1) (token_no_feed p.0 p.2.1) (All-cons (λ b. b ≢ 10) 58 p.1 (λ e. cc) (value_no_feed p.1 p.3))))
    part

-- a field's line before its line feed
abbrev field_line : Field → List ℕ
field_line f = (f.name ++ 58 ∷ f.raw) ++ before_feed f.end

field_no_feed : (f : Field) → IsField f → NoFeed (field_line f)
field_no_feed f is =
    no_feed_append (f.name ++ 58 ∷ f.raw) (before_feed f.end) (no_feed_append f.name (58 ∷ f.raw) (token_no_feed f.name is.name.1) (All-cons (λ b. b ≢ 10) 58 f.raw (λ e. cc) (value_no_feed f.raw is.raw))) (none_before f.end)

field_is : (f : Field) (tail : List ℕ) → print_field f ++ tail ≡ field_line f ++ 10 ∷ tail
field_is f tail =
    ap (λ t. ((f.name ++ 58 ∷ f.raw) ++ t) ++ tail) (end_is f.end) ∙ regroup (f.name ++ 58 ∷ f.raw) (before_feed f.end) (10 ∷ []) tail
  where
    regroup : (a b c d : List ℕ) → (a ++ (b ++ c)) ++ d ≡ (a ++ b) ++ (c ++ d)
    regroup a b c d = simp append_assoc

no_tail : (Q X : List ℕ) → Q ++ X ≡ [] → X ≡ []
no_tail [] X e = e
no_tail (q ∷ Q) X e = absurd (cc)

-- bytes that end with a line feed, within fields
pub within_fields : (fields : List Field) (last : LineEnd) (P X : List ℕ) → All IsField fields → Ended P → X ≢ [] → P ++ X ≡ print_section fields last → (gs : List Field) × All IsField gs × (P ≡ flat_map print_field gs)
within_fields fields last [] X all ended some e = ([], All-nil IsField, refl)
within_fields [] last (p ∷ P) X all ended some e =
    let r = after_line (before_feed last) [] p P X (none_before last) ended (e ∙ end_is last) in absurd (some (no_tail r.0 X r.3))
within_fields (f ∷ fields) last (p ∷ P) X all ended some e =
    let shape : print_section (f ∷ fields) last ≡ field_line f ++ 10 ∷ print_section fields last = append_assoc (print_field f) (flat_map print_field fields) (print_end last) ∙ field_is f (print_section fields last) in
    let r = after_line (field_line f) (print_section fields last) p P X (field_no_feed f (All-head IsField f fields all)) ended (e ∙ shape) in
    let more = within_fields fields last r.0 X (All-tail IsField f fields all) r.2 some r.3 in
    (f ∷ more.0, All-cons IsField f more.0 (All-head IsField f fields all) more.1, r.1 ∙ sym (field_is f r.0) ∙ ap (λ t. print_field f ++ t) more.2)

abbrev field_of : List ℕ → List ℕ → Field
field_of name raw = record { name = name; raw = raw; end = lf }

with_field : (gs : List Field) (name raw : List ℕ) → print_section (gs ++ field_of name raw ∷ []) lf ≡ (flat_map print_field gs ++ (name ++ 58 ∷ raw)) ++ 10 ∷ 10 ∷ []
with_field gs name raw =
    ap (λ t. t ++ 10 ∷ []) (flat_map-append print_field gs (field_of name raw ∷ [])) ∙ regroup (flat_map print_field gs) name (58 ∷ raw) (10 ∷ []) (10 ∷ [])
  where
    regroup : (a b c d e : List ℕ) → (a ++ (((b ++ c) ++ d) ++ [])) ++ e ≡ (a ++ (b ++ c)) ++ (d ++ e)
    regroup a b c d e = simp (append_assoc, append-nil)

all_with : (gs : List Field) (name raw : List ℕ) → All IsField gs → IsToken name → AllPass is_value_byte raw → All IsField (gs ++ field_of name raw ∷ [])
all_with gs name raw all token value = All-append IsField gs (field_of name raw ∷ []) all (All-cons IsField (field_of name raw) [] (record { name = token; raw = value }) (All-nil IsField))

-- a part of a field's line behind fields becomes fields and their end
pub completed : (gs : List Field) (line : List ℕ) → All IsField gs → IsFieldPart line → (fields : List Field) × (more : List ℕ) × All IsField fields × (print_section fields lf ≡ (flat_map print_field gs ++ line) ++ more)
completed gs [] all part = (gs, 10 ∷ [], all, ap (λ t. t ++ 10 ∷ []) (sym (append-nil (flat_map print_field gs))))
completed gs (l ∷ line) all part = ⊎_elim
    (λ name. (gs ++ field_of (l ∷ line) [] ∷ [], 58 ∷ 10 ∷ 10 ∷ [], all_with gs (l ∷ line) [] all (omega arith, name) (All-nil (λ b. IsTrue (is_value_byte b))), with_field gs (l ∷ line) [] ∙ regroup (flat_map print_field gs) (l ∷ line) (58 ∷ []) (10 ∷ 10 ∷ [])))
    (λ p. (gs ++ field_of p.0 p.1 ∷ [], 10 ∷ 10 ∷ [], all_with gs p.0 p.1 all p.2 p.3, with_field gs p.0 p.1 ∙ ap (λ t. (flat_map print_field gs ++ t) ++ 10 ∷ 10 ∷ []) (sym p.4)))
    part
  where
    regroup : (a b c d : List ℕ) → (a ++ (b ++ c)) ++ d ≡ (a ++ b) ++ (c ++ d)
    regroup a b c d = simp append_assoc

pub version_no_feed : (minor : ℕ) → NoFeed (print_version minor)
unfolding httparse_on_literals
version_no_feed minor = no_feed_append (codes "HTTP/1.") ((48 + minor) ∷ []) (feedless (codes "HTTP/1.") refl) (All-cons (λ b. b ≢ 10) (48 + minor) [] (λ e. omega (arith, e)) (All-nil (λ b. b ≢ 10)))

-- bytes whose first is none of an empty line
pub no_blank : (blank : List LineEnd) (p : ℕ) (P rest : List ℕ) → p ≢ 13 → p ≢ 10 → p ∷ P ≡ print_blank blank ++ rest → blank ≡ []
no_blank [] p P rest return feed e = refl
no_blank (crlf ∷ blank) p P rest return feed e = absurd (return (cc))
no_blank (lf ∷ blank) p P rest return feed e = absurd (feed (cc))

-- what stands up to a line feed is ended
pub ended_at : (bytes : List ℕ) (at : ℕ) → at < length bytes → get_or bytes at 0 ≡ 10 → Ended (take (suc at) bytes)
ended_at [] at here feed = absurd (omega (arith, here))
ended_at (b ∷ bytes) zero here feed = feed
ended_at (b ∷ []) (suc at) here feed = absurd (omega (arith, here))
ended_at (b ∷ (c ∷ bytes)) (suc at) here feed = ended_at (c ∷ bytes) at (omega (arith, here)) feed
