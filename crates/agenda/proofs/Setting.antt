-- A mark that is set in each row.
use Rattle.std.proofs.Common.{◌≡◌, ℕ, zero, suc, ◌+◌, ◌*◌, ◌/◌, ◌<◌, List, [], ◌∷◌, ◌++◌, length, drop, take, set, get_or, refl, sym, ◌∙◌, ap, subst, arith}
use Rattle.std.proofs.lemmas.List.{length-set, drop_more, take_more_set, drop-set-lt, append_assoc}
use Rattle.agenda.specs.declared.mark.Mark.{Mark}
use Rattle.agenda.specs.Marks.{quiet, both}
use Rattle.agenda.specs.Rows.{halved, AreRows, first_row, pair_at, set_rows}
use Rattle.agenda.proofs.Pairs.{length_halved}

half_next : (n : ℕ) → suc (suc n) / 2 ≡ suc (n / 2)
half_next n = omega arith

pair_next : (a b : Mark) (ms : List Mark) (k : ℕ) → pair_at (a ∷ b ∷ ms) (suc k) ≡ pair_at ms k
pair_next a b ms k =
    let first : 2 * suc k ≡ suc (suc (2 * k)) = omega arith in
    let second : 2 * suc k + 1 ≡ suc (suc (2 * k + 1)) = omega arith in
    ap (λ n. both (get_or (a ∷ b ∷ ms) n quiet) (get_or (a ∷ b ∷ ms) (2 * suc k + 1) quiet)) first
    ∙ ap (λ n. both (get_or ms (2 * k) quiet) (get_or (a ∷ b ∷ ms) n quiet)) second

-- the row over a row in which a mark is set
pub halved_set : (row : List Mark) (at : ℕ) (m : Mark) → at < length row → halved (set row at m) ≡ set (halved row) (at / 2) (pair_at (set row at m) (at / 2))
halved_set [] at m l = absurd (omega (arith, l))
halved_set (a ∷ []) zero m l = refl
halved_set (a ∷ []) (suc at) m l = absurd (omega (arith, l))
halved_set (a ∷ b ∷ ms) zero m l = refl
halved_set (a ∷ b ∷ ms) (suc zero) m l = refl
halved_set (a ∷ b ∷ ms) (suc (suc at)) m l =
    let ih = halved_set ms at m (omega (arith, l)) in
    ap (λ xs. both a b ∷ xs) (ih ∙ ap (λ p. set (halved ms) (at / 2) p) (sym (pair_next a b (set ms at m) (at / 2))))
    ∙ ap (λ n. set (halved (a ∷ b ∷ ms)) n (pair_at (set (a ∷ b ∷ ms) (suc (suc at)) m) n)) (sym (half_next at))

pub rows_set : (rows : List (List Mark)) (at : ℕ) (m : Mark) → AreRows rows → at < length (first_row rows) → AreRows (set_rows rows at m)
rows_set [] at m r l = tt
rows_set (row ∷ []) at m r l = let e = length-set row at m in omega (arith, r, e)
rows_set (row ∷ above ∷ rows) at m r l =
    let below : at / 2 < length above = (let e = ap length r.0 ∙ length_halved row in omega (arith, e, l)) in
    let p : Mark = pair_at (set row at m) (at / 2) in
    (ap (λ xs. set xs (at / 2) p) r.0 ∙ sym (halved_set row at m l), rows_set (above ∷ rows) (at / 2) p r.1 below)

pub first_set : (rows : List (List Mark)) (at : ℕ) (m : Mark) → first_row (set_rows rows at m) ≡ set (first_row rows) at m
first_set [] at m = refl
first_set (row ∷ rows) at m = refl

-- the rows that are left, where a mark is to be set at this place
abbrev pub AreLeft : List (List Mark) → ℕ → Type 0
AreLeft [] at = Unit {0}
AreLeft (row ∷ rows) at = (at < length row) × AreRows (row ∷ rows)

pub left_first : (rows : List (List Mark)) (at : ℕ) → AreRows rows → at < length (first_row rows) → AreLeft rows at
left_first [] at r l = tt
left_first (row ∷ rows) at r l = (l, r)

pub left_next : (row : List Mark) (rows : List (List Mark)) (at : ℕ) → AreLeft (row ∷ rows) at → AreLeft rows (at / 2)
left_next row [] at h = tt
left_next row (above ∷ rows) at h = (let e = ap length h.1.0 ∙ length_halved row in let l = h.0 in omega (arith, e, l), h.1.1)

-- one row after another

abbrev row_at : List (List Mark) → ℕ → List Mark
row_at rows level = get_or rows level []

pub set_value : (rows whole : List (List Mark)) (level at : ℕ) (m : Mark) → level < length rows → take level rows ++ set_rows (drop level rows) at m ≡ whole
    → take (level + 1) (set rows level (set (row_at rows level) at m)) ++ set_rows (drop (level + 1) (set rows level (set (row_at rows level) at m))) (at / 2) (pair_at (set (row_at rows level) at m) (at / 2)) ≡ whole
set_value rows whole level at m l h =
    let row : List Mark = set (row_at rows level) at m in
    let p : Mark = pair_at row (at / 2) in
    ap (λ xs. xs ++ set_rows (drop (level + 1) (set rows level row)) (at / 2) p) (take_more_set rows level row l)
    ∙ ap (λ xs. (take level rows ++ row ∷ []) ++ set_rows xs (at / 2) p) (drop-set-lt (level + 1) rows level row (omega arith))
    ∙ append_assoc (take level rows) (row ∷ []) (set_rows (drop (level + 1) rows) (at / 2) p)
    ∙ ap (λ xs. take level rows ++ set_rows xs at m) (sym (drop_more rows level [] l))
    ∙ h

pub set_left : (rows : List (List Mark)) (level at : ℕ) (row : List Mark) → level < length rows → AreLeft (drop level rows) at → AreLeft (drop (level + 1) (set rows level row)) (at / 2)
set_left rows level at row l h =
    subst (λ xs. AreLeft xs (at / 2)) (sym (drop-set-lt (level + 1) rows level row (omega arith)))
    (left_next (row_at rows level) (drop (level + 1) rows) at (subst (λ xs. AreLeft xs at) (drop_more rows level [] l) h))

pub left_bound : (rows : List (List Mark)) (level at : ℕ) → level < length rows → AreLeft (drop level rows) at → at < length (row_at rows level)
left_bound rows level at l h = (subst (λ xs. AreLeft xs at) (drop_more rows level [] l) h).0

pub set_step : (rows next whole : List (List Mark)) (level at : ℕ) (m p : Mark) → level < length rows → next ≡ set rows level (set (row_at rows level) at m) → p ≡ pair_at (set (row_at rows level) at m) (at / 2)
    → take level rows ++ set_rows (drop level rows) at m ≡ whole → take (level + 1) next ++ set_rows (drop (level + 1) next) (at / 2) p ≡ whole
set_step rows next whole level at m p l is pair h =
    subst (λ xs. take (level + 1) xs ++ set_rows (drop (level + 1) xs) (at / 2) p ≡ whole) (sym is)
    (subst (λ q. take (level + 1) (set rows level (set (row_at rows level) at m)) ++ set_rows (drop (level + 1) (set rows level (set (row_at rows level) at m))) (at / 2) q ≡ whole) (sym pair) (set_value rows whole level at m l h))

pub left_step : (rows next : List (List Mark)) (level at : ℕ) (row : List Mark) → level < length rows → next ≡ set rows level row → AreLeft (drop level rows) at → AreLeft (drop (level + 1) next) (at / 2)
left_step rows next level at row l is h = subst (λ xs. AreLeft (drop (level + 1) xs) (at / 2)) (sym is) (set_left rows level at row l h)

pub rows_kept : (rows old next : List (List Mark)) (at : ℕ) (m : Mark) → AreRows rows → old ≡ rows → next ≡ set_rows old at m → at < length (first_row rows) → AreRows next
rows_kept rows old next at m r same is l = subst AreRows (sym is) (subst (λ xs. AreRows (set_rows xs at m)) (sym same) (rows_set rows at m r l))
