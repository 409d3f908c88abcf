-- The places with what is searched for, from the top row down.
use Rattle.std.proofs.Common.{◌≡◌, ℕ, suc, ◌+◌, ◌*◌, ◌<◌, ◌≤◌, ◌||◌, Bool, true, false, cond, List, [], ◌∷◌, ◌++◌, length, fold, get_or, refl, sym, ◌∙◌, ap, arith}
use Rattle.agenda.specs.declared.mark.Mark.{Mark}
use Rattle.agenda.specs.declared.mark.Search.{Search}
use Rattle.agenda.specs.Marks.{quiet, both, all_of, finds, places_from}
use Rattle.agenda.specs.Rows.{halved, AreRows, first_row, child, spread, found_in}
use Rattle.agenda.proofs.Pairs.{finds_both, finds_quiet}

abbrev one : Bool → ℕ → List ℕ
one b at = cond b (at ∷ []) []

child_is : (search : Search) (row : List Mark) (at : ℕ) (m : Mark) → get_or row at quiet ≡ m → child search row at ≡ one (finds search m) at
child_is search row at m e = ap (λ x. one (finds search x) at) e

-- a place with what is searched for, and the others behind it
abbrev then_found : Bool → ℕ → List ℕ → List ℕ
then_found b at rest = cond b (at ∷ rest) rest

found_then : (b : Bool) (at : ℕ) (rest : List ℕ) → one b at ++ rest ≡ then_found b at rest
found_then true at rest = refl
found_then false at rest = refl

abbrev Continues : List Mark → ℕ → List Mark → Type 0
Continues row k ms = (j : ℕ) → get_or row (2 * k + j) quiet ≡ get_or ms j quiet

first_of : (row : List Mark) (k : ℕ) (a : Mark) (ms : List Mark) → Continues row k (a ∷ ms) → get_or row (2 * k) quiet ≡ a
first_of row k a ms c = ap (λ n. get_or row n quiet) (omega arith) ∙ c 0

-- the two under a place, and the others
looked : (s : Search) (row : List Mark) (k : ℕ) (a b : Mark) (above rest : List ℕ) → get_or row (2 * k) quiet ≡ a → get_or row (2 * k + 1) quiet ≡ b → spread s row above ≡ rest
    → spread s row (k ∷ above) ≡ then_found (finds s a) (2 * k) (then_found (finds s b) (2 * k + 1) rest)
looked s row k a b above rest first second ih =
    ap (λ xs. xs ++ (child s row (2 * k + 1) ++ spread s row above)) (child_is s row (2 * k) a first)
    ∙ ap (λ xs. one (finds s a) (2 * k) ++ (xs ++ spread s row above)) (child_is s row (2 * k + 1) b second)
    ∙ ap (λ xs. one (finds s a) (2 * k) ++ (one (finds s b) (2 * k + 1) ++ xs)) ih
    ∙ ap (λ xs. one (finds s a) (2 * k) ++ xs) (found_then (finds s b) (2 * k + 1) rest)
    ∙ found_then (finds s a) (2 * k) (then_found (finds s b) (2 * k + 1) rest)

-- where neither is found, nothing is
neither : (s : Search) (row : List Mark) (k : ℕ) (a b : Mark) (above rest : List ℕ) → (finds s (both a b)) ≡ false → spread s row above ≡ rest → rest ≡ then_found (finds s a) (2 * k) (then_found (finds s b) (2 * k + 1) rest)
neither s row k a b above rest none ih = at (finds s a) (finds s b) (sym (finds_both s a b) ∙ none)
  where
    at : (x y : Bool) → (x || y) ≡ false → rest ≡ then_found x (2 * k) (then_found y (2 * k + 1) rest)
    at true y e = cc
    at false true e = cc
    at false false e = refl

pair_found : (s : Search) (row : List Mark) (k : ℕ) (a b : Mark) (above rest : List ℕ) → get_or row (2 * k) quiet ≡ a → get_or row (2 * k + 1) quiet ≡ b → spread s row above ≡ rest
    → spread s row (then_found (finds s (both a b)) k above) ≡ then_found (finds s a) (2 * k) (then_found (finds s b) (2 * k + 1) rest)
pair_found s row k a b above rest first second ih = at (finds s (both a b)) refl
  where
    at : (x : Bool) → finds s (both a b) ≡ x → spread s row (then_found x k above) ≡ then_found (finds s a) (2 * k) (then_found (finds s b) (2 * k + 1) rest)
    at true e = looked s row k a b above rest first second ih
    at false e = ih ∙ neither s row k a b above rest e ih

quiet_not : (s : Search) (x : Bool) (k : ℕ) → then_found x k (then_found (finds s quiet) (k + 1) []) ≡ then_found x k []
quiet_not s x k = ap (λ b. then_found x k (then_found b (k + 1) [])) (finds_quiet s)

spread_from : (s : Search) (row : List Mark) (k : ℕ) (ms : List Mark) → Continues row k ms → spread s row (places_from s k (halved ms)) ≡ places_from s (2 * k) ms
spread_from s row k [] c = refl
spread_from s row k (a ∷ []) c = pair_found s row k a quiet [] [] (first_of row k a [] c) (c 1) refl ∙ quiet_not s (finds s a) (2 * k)
spread_from s row k (a ∷ b ∷ ms) c =
    let next : (j : ℕ) → 2 * (k + 1) + j ≡ 2 * k + suc (suc j) = λ j. omega arith in
    let behind : 2 * (k + 1) ≡ 2 * k + 1 + 1 = omega arith in
    let ih : spread s row (places_from s (k + 1) (halved ms)) ≡ places_from s (2 * (k + 1)) ms = spread_from s row (k + 1) ms (λ j. ap (λ n. get_or row n quiet) (next j) ∙ c (suc (suc j))) in
    pair_found s row k a b (places_from s (k + 1) (halved ms)) (places_from s (2 * k + 1 + 1) ms) (first_of row k a (b ∷ ms) c) (c 1) (ih ∙ ap (λ n. places_from s n ms) behind)

-- under those of the row above
pub spread_next : (s : Search) (row : List Mark) → spread s row (places_from s 0 (halved row)) ≡ places_from s 0 row
spread_next s row = spread_from s row 0 row (λ j. ap (λ n. get_or row n quiet) (omega arith)) ∙ ap (λ n. places_from s n row) (omega arith)

-- a row of at most one
spread_first : (s : Search) (row : List Mark) → length row ≤ 1 → spread s row (0 ∷ []) ≡ places_from s 0 row
spread_first s [] l = looked s [] 0 quiet quiet [] [] refl refl refl ∙ ap (λ b. then_found b 0 (then_found b 1 [])) (finds_quiet s)
spread_first s (m ∷ []) l = looked s (m ∷ []) 0 m quiet [] [] refl refl refl ∙ quiet_not s (finds s m) 0
spread_first s (m ∷ n ∷ ms) l = absurd (omega (arith, l))

pub found_all : (search : Search) (row : List Mark) (rows : List (List Mark)) → AreRows (row ∷ rows) → found_in search (row ∷ rows) ≡ places_from search 0 row
found_all search row [] r = spread_first search row r
found_all search row (above ∷ rows) r = ap (spread search row) (found_all search above rows r.1 ∙ ap (places_from search 0) r.0) ∙ spread_next search row

pub found_first : (s : Search) (rows : List (List Mark)) → AreRows rows → 0 < length rows → found_in s rows ≡ places_from s 0 (first_row rows)
found_first s [] r l = absurd (omega (arith, l))
found_first s (row ∷ rows) r l = found_all s row rows r

-- where the marks together do not have it, none has

none_parts : (x y : Bool) → (x || y) ≡ false → (x ≡ false) × (y ≡ false)
none_parts true y e = cc
none_parts false y e = (refl, e)

none_from : (s : Search) (at : ℕ) (m : Mark) (ms : List Mark) → finds s (fold both m ms) ≡ false → (finds s m ≡ false) × (places_from s at ms ≡ [])
none_from s at m [] e = (e, refl)
none_from s at m (x ∷ ms) e =
    let rest = none_from s (at + 1) (both m x) ms e in
    let parts = none_parts (finds s m) (finds s x) (sym (finds_both s m x) ∙ rest.0) in
    (parts.0, ap (λ b. cond b (at ∷ places_from s (at + 1) ms) (places_from s (at + 1) ms)) parts.1 ∙ rest.1)

pub none_found : (s : Search) (ms : List Mark) → finds s (all_of ms) ≡ false → places_from s 0 ms ≡ []
none_found s ms e = (none_from s 0 quiet ms e).1
