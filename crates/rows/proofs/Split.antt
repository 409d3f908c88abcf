-- The first piece of a text.
use Rattle.std.proofs.Common.{◌≡◌, ◌==◌, ◌<◌, ◌≤◌, ◌+◌, ℕ, suc, Bool, true, false, List, [], ◌∷◌, length, take, drop, get_or, refl, if◌then◌else◌, arith, add-one, eq-eqb}
use Rattle.std.proofs.lemmas.List.{take_all, drop_all}
use Rattle.std.proofs.Math.Seq.{drop-cons}
use Rattle.rows.specs.Pieces.{joined_front, piece_length, pieces}

-- a text without a separator is one piece
pub last_piece : (separator : ℕ) (text : List ℕ) → piece_length separator text ≡ length text → pieces separator text ≡ text ∷ []
last_piece separator [] h = refl
last_piece separator (b ∷ t) h = by (b == separator) h (last_piece separator t)
  where
    by : (v : Bool) → (if v then 0 else piece_length separator t + 1) ≡ suc (length t) → (piece_length separator t ≡ length t → pieces separator t ≡ t ∷ [])
        → (if v then [] ∷ pieces separator t else joined_front b (pieces separator t)) ≡ (b ∷ t) ∷ []
    by true h more = absurd (omega arith)
    by false h more = rw (more (omega arith)) refl

taken : (n b : ℕ) (t : List ℕ) → take (n + 1) (b ∷ t) ≡ b ∷ take n t
taken n b t = rw add-one refl

dropped : (n b : ℕ) (t : List ℕ) → drop (n + 1) (b ∷ t) ≡ drop n t
dropped n b t = rw add-one refl

-- the text before the first separator is the first piece
pub first_piece : (separator : ℕ) (text : List ℕ) → piece_length separator text < length text
    → pieces separator text ≡ take (piece_length separator text) text ∷ pieces separator (drop (piece_length separator text + 1) text)
first_piece separator [] h = absurd (omega arith)
first_piece separator (b ∷ t) h = by (b == separator) h (first_piece separator t)
  where
    by : (v : Bool) → (if v then 0 else piece_length separator t + 1) < suc (length t)
        → (piece_length separator t < length t → pieces separator t ≡ take (piece_length separator t) t ∷ pieces separator (drop (piece_length separator t + 1) t))
        → (if v then [] ∷ pieces separator t else joined_front b (pieces separator t)) ≡ take (if v then 0 else piece_length separator t + 1) (b ∷ t) ∷ pieces separator (drop ((if v then 0 else piece_length separator t + 1) + 1) (b ∷ t))
    by true h more = refl
    by false h more = rw (more (omega arith), taken (piece_length separator t) b t, dropped (piece_length separator t + 1) b t) refl

-- where a count stands at a separator and none is before it, it is the length of the first piece
pub first_split : (separator n : ℕ) (text : List ℕ) → piece_length separator text ≡ n + piece_length separator (drop n text) → get_or text n 0 ≡ separator → n < length text
    → pieces separator text ≡ take n text ∷ pieces separator (drop (n + 1) text)
first_split separator n text run here less =
    let more : drop n text ≡ get_or text n 0 ∷ drop (suc n) text = drop-cons text n 0 less in
    let yes : (get_or text n 0 == separator) ≡ true = eq-eqb (get_or text n 0) separator here in
    let none : piece_length separator (drop n text) ≡ 0 = rw (more, yes) refl in
    let is : piece_length separator text ≡ n = omega arith in
    let within : piece_length separator text < length text = omega arith in
    rw is at (first_piece separator text within)

-- where it stands at the end, that piece is the whole text
pub last_split : (separator n : ℕ) (text : List ℕ) → piece_length separator text ≡ n + piece_length separator (drop n text) → n ≤ length text → length text ≤ n → pieces separator text ≡ take n text ∷ []
last_split separator n text run within most =
    let nothing : drop n text ≡ [] = drop_all n text most in
    let none : piece_length separator (drop n text) ≡ 0 = rw nothing refl in
    let is : piece_length separator text ≡ length text = omega arith in
    rw (take_all n text most) (last_piece separator text is)
