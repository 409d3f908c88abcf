-- Bytes that are followed within the lines of fields.
use Rattle.std.proofs.Common.{◌≡◌, ◌≢◌, ℕ, ◌+◌, ◌-◌, ◌<◌, ◌≤◌, inl, inr, Bool, true, false, cond, ◌==◌, List, [], ◌∷◌, ◌++◌, length, take, drop, get_or, refl, sym, ◌∙◌, ap, subst, arith, append_assoc, length-append}
use Rattle.std.proofs.lemmas.List.{drop-append-le, drop_all, get_or_append_left, length-take, take_more, take-append-drop}
use Rattle.std.proofs.lemmas.List.Elements.{All-nil, All-cons, All-append, All-head, All-tail}
use Rattle.std.proofs.lemmas.Bool.{eqb-true, ne_eqb}
use Rattle.std.proofs.Math.Seq.{take-add}
use Rattle.std.specs.Prelude.{IsTrue}
use Rattle.httparse.specs.Grammar.{AllPass, IsToken, is_token_byte, is_value_byte}
use Rattle.wire.specs.FieldLines.{EndsIn, EndsInLine, IsFieldPart, IsNamed, step_line}
use Rattle.wire.specs.Front.{line_feeds}
use Rattle.wire.specs.declared.field_line.Line.{Line}
use Rattle.wire.specs.declared.field_line.Line.TheVariants.{Unknown, Start, Name, Value}
use Rattle.wire.proofs.Fronts.{line_feeds-append, line_feeds-cons}
use Rattle.wire.proofs.Going.{EndsInField, NoFeed, part_no_feed}

as_part : (P : List ℕ → Type 0) (had : ℕ) (bytes : List ℕ) → ((line : List ℕ) → P line → IsFieldPart line) → EndsInLine P had bytes → (at : ℕ) × (at ≤ had) × EndsInField bytes at
as_part P had bytes f e = (e.at, e.within, record { some = e.some; feed = e.feed; return = e.return; blank = e.blank; part = f (drop e.at bytes) e.part })

-- where it is known where they end, they end within the line of a field
pub in_field : (had : ℕ) (bytes : List ℕ) (line : Line) → EndsIn had bytes line → line ≢ Unknown → (at : ℕ) × (at ≤ had) × EndsInField bytes at
in_field had bytes Unknown e known = absurd (known refl)
in_field had bytes Start e known = as_part (λ line. line ≡ []) had bytes (λ line none. inl (subst (AllPass is_token_byte) (sym none) (All-nil (λ b. IsTrue (is_token_byte b))))) e
in_field had bytes Name e known = as_part IsToken had bytes (λ line token. inl token.1) e
in_field had bytes Value e known = as_part IsNamed had bytes (λ line named. inr named) e

one_more : (P Q : List ℕ → Type 0) (had : ℕ) (bytes : List ℕ) (b : ℕ) → had ≤ length bytes → ((line : List ℕ) → P line → Q (line ++ b ∷ [])) → EndsInLine P had bytes → EndsInLine Q had (bytes ++ b ∷ [])
one_more P Q had bytes b le f e = record {
  at = e.at;
  some = e.some;
  within = e.within;
  feed = get_or_append_left bytes (b ∷ []) 0 (e.at - 1) (omega (arith, e.some, e.within, le)) ∙ e.feed;
  return = λ is. e.return (sym (get_or_append_left bytes (b ∷ []) 0 0 (omega (arith, e.some, e.within, le))) ∙ is);
  blank = λ is. e.blank (sym (get_or_append_left bytes (b ∷ []) 0 0 (omega (arith, e.some, e.within, le))) ∙ is);
  part = subst Q (sym (drop-append-le e.at bytes (b ∷ []) (omega (arith, e.within, le)))) (f (drop e.at bytes) e.part);
}

all_more : (test : ℕ → Bool) (bytes : List ℕ) (b : ℕ) → test b ≡ true → AllPass test bytes → AllPass test (bytes ++ b ∷ [])
all_more test bytes b is all = All-append (λ b. IsTrue (test b)) bytes (b ∷ []) all (All-cons (λ b. IsTrue (test b)) b [] is (All-nil (λ b. IsTrue (test b))))

first_token : (b : ℕ) → is_token_byte b ≡ true → (line : List ℕ) → line ≡ [] → IsToken (line ++ b ∷ [])
first_token b is line none = subst (λ l. IsToken (l ++ b ∷ [])) (sym none) (omega arith, All-cons (λ b. IsTrue (is_token_byte b)) b [] is (All-nil (λ b. IsTrue (is_token_byte b))))

more_token : (b : ℕ) → is_token_byte b ≡ true → (line : List ℕ) → IsToken line → IsToken (line ++ b ∷ [])
more_token b is line token = (omega (arith, length-append line (b ∷ [])), all_more is_token_byte line b is token.1)

colon_behind : (b : ℕ) → (b == 58) ≡ true → (line : List ℕ) → IsToken line → IsNamed (line ++ b ∷ [])
colon_behind b is line token = (line, [], token, All-nil (λ b. IsTrue (is_value_byte b)), ap (λ c. line ++ c ∷ []) (eqb-true b 58 is))

more_value : (b : ℕ) → is_value_byte b ≡ true → (line : List ℕ) → IsNamed line → IsNamed (line ++ b ∷ [])
more_value b is line n = (n.0, n.1 ++ b ∷ [], n.2, all_more is_value_byte n.1 b is n.3, ap (λ l. l ++ b ∷ []) n.4 ∙ append_assoc n.0 (58 ∷ n.1) (b ∷ []))

-- with one byte more
pub ends_step : (had : ℕ) (bytes : List ℕ) (line : Line) (b : ℕ) → had ≤ length bytes → EndsIn had bytes line → EndsIn had (bytes ++ b ∷ []) (step_line line b)
ends_step had bytes Unknown b le e = tt
ends_step had bytes Start b le e = by (is_token_byte b) refl
  where
    by : (t : Bool) → is_token_byte b ≡ t → EndsIn had (bytes ++ b ∷ []) (cond t Name Unknown)
    by true is = one_more (λ line. line ≡ []) IsToken had bytes b le (first_token b is) e
    by false is = tt
ends_step had bytes Name b le e = by (is_token_byte b) (b == 58) refl refl
  where
    by : (t u : Bool) → is_token_byte b ≡ t → (b == 58) ≡ u → EndsIn had (bytes ++ b ∷ []) (cond t Name (cond u Value Unknown))
    by true u is colon = one_more IsToken IsToken had bytes b le (more_token b is) e
    by false true is colon = one_more IsToken IsNamed had bytes b le (colon_behind b colon) e
    by false false is colon = tt
ends_step had bytes Value b le e = by (is_value_byte b) refl
  where
    by : (t : Bool) → is_value_byte b ≡ t → EndsIn had (bytes ++ b ∷ []) (cond t Value Unknown)
    by true is = one_more IsNamed IsNamed had bytes b le (more_value b is) e
    by false is = tt

later_line : (P : List ℕ → Type 0) (had n : ℕ) (bytes : List ℕ) → had ≤ n → EndsInLine P had bytes → EndsInLine P n bytes
later_line P had n bytes le e = record { at = e.at; some = e.some; within = omega (arith, e.within, le); feed = e.feed; return = e.return; blank = e.blank; part = e.part }

pub ends_later : (had n : ℕ) (bytes : List ℕ) (line : Line) → had ≤ n → EndsIn had bytes line → EndsIn n bytes line
ends_later had n bytes Unknown le e = tt
ends_later had n bytes Start le e = later_line (λ line. line ≡ []) had n bytes le e
ends_later had n bytes Name le e = later_line IsToken had n bytes le e
ends_later had n bytes Value le e = later_line IsNamed had n bytes le e

no_feeds : (bytes : List ℕ) → NoFeed bytes → line_feeds bytes ≡ 0
no_feeds [] none = refl
no_feeds (b ∷ bytes) none =
    omega (arith, line_feeds-cons b bytes, no_feeds bytes (All-tail (λ b. b ≢ 10) b bytes none), ap {B = ℕ} (λ t. cond t 1 0) (ne_eqb b 10 (All-head (λ b. b ≢ 10) b bytes none)))

-- no line feed came
pub feeds_before : (had : ℕ) (bytes : List ℕ) (line : Line) → EndsIn had bytes line → line ≢ Unknown → line_feeds bytes ≤ line_feeds (take had bytes)
feeds_before had bytes line e known =
    let f = in_field had bytes line e known in
    let sum : had ≡ f.0 + (had - f.0) = omega (arith, f.1) in
    let some : take had bytes ≡ take f.0 bytes ++ take (had - f.0) (drop f.0 bytes) = ap (λ n. take n bytes) sum ∙ take-add f.0 (had - f.0) bytes in
    omega (arith, ap line_feeds (sym (take-append-drop f.0 bytes)), line_feeds-append (take f.0 bytes) (drop f.0 bytes), no_feeds (drop f.0 bytes) (part_no_feed (drop f.0 bytes) f.2.part), ap line_feeds some, line_feeds-append (take f.0 bytes) (take (had - f.0) (drop f.0 bytes)))

pub line_begun : (bytes : List ℕ) → 0 < length bytes → get_or bytes (length bytes - 1) 0 ≡ 10 → get_or bytes 0 0 ≢ 13 → get_or bytes 0 0 ≢ 10 → EndsInLine (λ line. line ≡ []) (length bytes) bytes
line_begun bytes some feed return blank = record { at = length bytes; some = some; within = omega arith; feed = feed; return = return; blank = blank; part = drop_all (length bytes) bytes (omega arith) }

-- one byte more was followed
pub follow_step : (bytes : List ℕ) (had i b : ℕ) (line next : Line) → had + i < length bytes → b ≡ get_or bytes (had + i) 0 → EndsIn had (take (had + i) bytes) line → next ≡ step_line line b → EndsIn had (take (had + (i + 1)) bytes) next
follow_step bytes had i b line next here is ends stepped =
    let sum : had + (i + 1) ≡ had + i + 1 = omega arith in
    let whole : take (had + (i + 1)) bytes ≡ take (had + i) bytes ++ b ∷ [] = ap (λ n. take n bytes) sum ∙ take_more bytes (had + i) 0 here ∙ ap (λ c. take (had + i) bytes ++ c ∷ []) (sym is) in
    subst (λ n. EndsIn had (take (had + (i + 1)) bytes) n) (sym stepped)
    (subst (λ t. EndsIn had t (step_line line b)) (sym whole) (ends_step had (take (had + i) bytes) line b (omega (arith, here, length-take (had + i) bytes)) ends))

-- the first so many bytes of more are those that were looked at
pub ends_same : (near held now : List ℕ) (n : ℕ) (line : Line) → near ≡ held → n ≡ length held → take n now ≡ held → EndsIn (length near) near line → EndsIn n (take n now) line
ends_same near held now n line same count first ends =
    subst (λ b. EndsIn n b line) (same ∙ sym first) (subst (λ k. EndsIn k near line) (ap length same ∙ sym count) ends)
