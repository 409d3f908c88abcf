-- The rows over a row, one after another.
use Rattle.std.proofs.Common.{◌≡◌, ℕ, zero, suc, ◌+◌, ◌*◌, ◌<◌, ◌≤◌, List, [], ◌∷◌, ◌++◌, length, drop, get_or, replicate, refl, sym, ◌∙◌, ap, arith}
use Rattle.agenda.specs.declared.mark.Mark.{Mark}
use Rattle.agenda.specs.Marks.{quiet, both}
use Rattle.agenda.specs.Rows.{halved, AreRows, first_row, pair_at}
use Rattle.agenda.proofs.Pairs.{length_halved}

-- one more at the end
pub replicate_push : {X : Type 0} (n : ℕ) (x : X) → replicate n x ++ x ∷ [] ≡ replicate (n + 1) x
replicate_push zero x = refl
replicate_push (suc n) x = ap (λ xs. x ∷ xs) (replicate_push n x) ∙ ap (λ k. replicate k x) (next n)
  where
    next : (n : ℕ) → suc (n + 1) ≡ suc n + 1
    next n = omega arith

-- the two at twice a place, and what is behind them
from_pair : (row : List Mark) (at : ℕ) → 2 * at < length row → halved (drop (2 * at) row) ≡ pair_at row at ∷ halved (drop (2 * (at + 1)) row)
from_pair [] at l = absurd (omega (arith, l))
from_pair (a ∷ []) zero l = refl
from_pair (a ∷ []) (suc at) l = absurd (omega (arith, l))
from_pair (a ∷ b ∷ ms) zero l = refl
from_pair (a ∷ b ∷ ms) (suc at) l =
    let here : 2 * suc at ≡ suc (suc (2 * at)) = omega arith in
    let behind : 2 * (suc at + 1) ≡ suc (suc (2 * (at + 1))) = omega arith in
    let second : 2 * suc at + 1 ≡ suc (suc (2 * at + 1)) = omega arith in
    ap (λ n. halved (drop n (a ∷ b ∷ ms))) here
    ∙ from_pair ms at (omega (arith, l))
    ∙ ap (λ n. both (get_or ms (2 * at) quiet) (get_or (a ∷ b ∷ ms) n quiet) ∷ halved (drop (2 * (at + 1)) ms)) (sym second)
    ∙ ap (λ n. both (get_or (a ∷ b ∷ ms) n quiet) (get_or (a ∷ b ∷ ms) (2 * suc at + 1) quiet) ∷ halved (drop (2 * (at + 1)) ms)) (sym here)
    ∙ ap (λ n. pair_at (a ∷ b ∷ ms) (suc at) ∷ halved (drop n (a ∷ b ∷ ms))) (sym behind)

pub halved_more : (half row : List Mark) (at : ℕ) → 2 * at < length row → half ++ halved (drop (2 * at) row) ≡ halved row → (half ++ pair_at row at ∷ []) ++ halved (drop (2 * (at + 1)) row) ≡ halved row
halved_more half row at l h = append half (pair_at row at) (halved (drop (2 * (at + 1)) row)) ∙ ap (λ xs. half ++ xs) (sym (from_pair row at l)) ∙ h
  where
    append : (xs : List Mark) (y : Mark) (zs : List Mark) → (xs ++ y ∷ []) ++ zs ≡ xs ++ y ∷ zs
    append [] y zs = refl
    append (x ∷ xs) y zs = ap (λ l. x ∷ l) (append xs y zs)

-- rows, and the one that comes next over them
abbrev pub AreRowsTo : List (List Mark) → List Mark → Type 0
AreRowsTo [] next = Unit {0}
AreRowsTo (row ∷ []) next = next ≡ halved row
AreRowsTo (row ∷ above ∷ rows) next = (above ≡ halved row) × AreRowsTo (above ∷ rows) next

pub rows_more : (rows : List (List Mark)) (next over : List Mark) → over ≡ halved next → AreRowsTo rows next → AreRowsTo (rows ++ next ∷ []) over
rows_more [] next over e h = e
rows_more (row ∷ []) next over e h = (h, e)
rows_more (row ∷ above ∷ rows) next over e h = (h.0, rows_more (above ∷ rows) next over e h.1)

pub rows_end : (rows : List (List Mark)) (next : List Mark) → length next ≤ 1 → AreRowsTo rows next → AreRows (rows ++ next ∷ [])
rows_end [] next l h = l
rows_end (row ∷ []) next l h = (h, l)
rows_end (row ∷ above ∷ rows) next l h = (h.0, rows_end (above ∷ rows) next l h.1)

pub first_more : (rows : List (List Mark)) (next over : List Mark) → first_row ((rows ++ next ∷ []) ++ over ∷ []) ≡ first_row (rows ++ next ∷ [])
first_more [] next over = refl
first_more (row ∷ rows) next over = refl

pub shorter : (row above : List Mark) → 1 < length row → above ≡ halved row → length above < length row
shorter row above l e = let k = ap length e ∙ length_halved row in omega (arith, l, k)
