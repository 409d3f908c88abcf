-- A write into the first bytes of a buffer.
use Rattle.std.proofs.Common.{◌≡◌, ◌⊎◌, inl, inr, ⊎_elim, ℕ, zero, suc, ◌+◌, ◌-◌, ◌≤◌, ◌<◌, max, List, [], ◌∷◌, ◌++◌, length, take, drop, replicate, sym, ◌∙◌, ap, arith, append-nil, length-append, length-take, length-take-le, take-take}
use Rattle.std.proofs.lemmas.List.{drop_all, drop-take}
use Rattle.edge.specs.Disk.{overwritten}

pub below_or_not : (a b : ℕ) → (a ≤ b) ⊎ (b < a)
below_or_not zero b = inl (omega arith)
below_or_not (suc a) zero = inr (omega arith)
below_or_not (suc a) (suc b) = ⊎_elim (λ le. inl (omega (arith, le))) (λ lt. inr (omega (arith, lt))) (below_or_not a b)

-- the first bytes of a joined list, past its first part
take_past : (xs ys : List ℕ) (m n : ℕ) → m ≡ length xs + n → take m (xs ++ ys) ≡ xs ++ take n ys
take_past [] ys m n is = let same : m ≡ n = omega arith in ap (λ (k : ℕ). take k ys) same
take_past (x ∷ xs) ys zero n is = absurd (omega arith)
take_past (x ∷ xs) ys (suc m) n is = ap (λ (l : List ℕ). x ∷ l) (take_past xs ys m n (omega arith))

pub put_is : (b g p : List ℕ) (len at : ℕ) (bytes : List ℕ) → len ≤ length b → at + length bytes ≤ length b → take (max len at) g ≡ take len b ++ replicate (at - len) 0 → length g ≡ length b
    → p ≡ take at g ++ bytes ++ drop (at + length bytes) g → take (max len (at + length bytes)) p ≡ overwritten at bytes (take len b)
put_is b g p len at bytes fits room gap same put =
    let n = length bytes in
    let old : List ℕ = take len b in
    let m = max len (at + n) in
    let old_is : length old ≡ len = length-take-le len b fits in
    let zeros : at - len ≡ at - length old = omega (arith, old_is) in
    let low : at ≤ max len at = omega arith in
    let first : take at g ≡ take at (old ++ replicate (at - length old) 0) =
    sym (take-take at (max len at) g low) ∙ ap (λ (l : List ℕ). take at l) (gap ∙ ap (λ (k : ℕ). old ++ replicate k 0) zeros) in
    let head_is : length (take at g ++ bytes) ≡ at + n = omega (arith, length-append (take at g) bytes, length-take at g) in
    let split : m ≡ length (take at g ++ bytes) + (m - (at + n)) = omega (arith, head_is) in
    let rest : take (m - (at + n)) (drop (at + n) g) ≡ drop (at + n) old = rest_is in
    ap (λ (l : List ℕ). take m l) put ∙ take_past (take at g ++ bytes) (drop (at + n) g) m (m - (at + n)) split
    ∙ ap (λ (l : List ℕ). take at g ++ bytes ++ l) rest ∙ ap (λ (l : List ℕ). l ++ bytes ++ drop (at + n) old) first
  where
    rest_is : take (max len (at + length bytes) - (at + length bytes)) (drop (at + length bytes) g) ≡ drop (at + length bytes) (take len b)
    rest_is = ⊎_elim
        (λ whole.
        let none : max len (at + length bytes) - (at + length bytes) ≡ 0 = omega arith in
        ap (λ (k : ℕ). take k (drop (at + length bytes) g)) none ∙ sym (drop_all (at + length bytes) (take len b) (omega (arith, length-take len b))))
        (λ inside.
        let sum : at + length bytes + (max len (at + length bytes) - (at + length bytes)) ≡ len = omega arith in
        let most : len ≡ max len at = omega arith in
        let nothing : at - len ≡ 0 = omega arith in
        sym (drop-take (at + length bytes) (max len (at + length bytes) - (at + length bytes)) g) ∙ ap (λ (k : ℕ). drop (at + length bytes) (take k g)) (sum ∙ most)
        ∙ ap (λ (l : List ℕ). drop (at + length bytes) l) (gap ∙ ap (λ (k : ℕ). take len b ++ replicate k 0) nothing ∙ append-nil (take len b)))
        (below_or_not len (at + length bytes))
