-- The place at which bytes are no journal.
use Rattle.std.proofs.Common.{◌≡◌, inl, inr, ℕ, min, ◌+◌, ◌<◌, ◌^◌, List, [], ◌∷◌, ◌++◌, length, take, refl, sym, ◌∙◌, ap, arith, append_assoc, length-append}
use Rattle.std.specs.Int.{w32, to_be_bytes, from_be_bytes}
use Rattle.std.proofs.lemmas.List.{take_at, append_cancel_left}
use Rattle.std.proofs.lemmas.Nat.{from_be_bytes-to_be_bytes_4}
use Rattle.journal.specs.Bytes.{front, header, entries, sized}
use Rattle.journal.specs.Reads.{IsNoJournal, RunsPast}
use Rattle.journal.proofs.One.{halves, sizes, tail, regroup}

-- the length that stands at the front of these bytes
abbrev size_at : List ℕ → ℕ
size_at bytes = from_be_bytes w32 (take 4 bytes)

-- so many bytes are too few for an entry at this place, and for the gate after it
abbrev IsShort : ℕ → ℕ → List ℕ → Type 0
IsShort total at rest = min total (2 ^ 30) < at + 6 + size_at rest

-- an entry that runs past the end has no gate behind it
unlike : (q : List ℕ) (m : List (List ℕ)) (r s : List ℕ) (k total : ℕ) → total ≡ k + 1 + length r → k + length (entries (q ∷ m)) < 2 ^ 30 → IsShort total k r
    → r ≡ to_be_bytes w32 (length q) ++ (q ++ (entries m ++ 1 ∷ s)) → ⊥
unlike q m r s k total long within short is =
    let fq : length q < 2 ^ 32 = omega (arith, length-append (sized q) (entries m), length-append (to_be_bytes w32 (length q)) q) in
    let size_is : size_at r ≡ length q = ap size_at is ∙ from_be_bytes-to_be_bytes_4 (length q) fq in
    omega (
      arith,
      size_is,
      ap length is,
      length-append (to_be_bytes w32 (length q)) (q ++ (entries m ++ 1 ∷ s)),
      length-append q (entries m ++ 1 ∷ s),
      length-append (entries m) (1 ∷ s),
      length-append (sized q) (entries m),
      length-append (to_be_bytes w32 (length q)) q,
    )

both_past : (l m : List (List ℕ)) (r s : List ℕ) (k total : ℕ) → total ≡ k + length (entries l) + 1 + length r → total ≡ k + length (entries m) + 1 + length s → k + length (entries l) < 2 ^ 30 → k + length (entries m) < 2 ^ 30
    → IsShort total (k + length (entries l)) r → IsShort total (k + length (entries m)) s → entries l ++ 1 ∷ r ≡ entries m ++ 1 ∷ s → length (entries l) ≡ length (entries m)
both_past [] [] r s k total a b fl fm pl pm e = refl
both_past [] (q ∷ m) r s k total a b fl fm pl pm e =
    absurd (unlike q m r s k total (omega arith) fm (omega arith) (tail 1 1 r ((sized q ++ entries m) ++ 1 ∷ s) e ∙ regroup q (entries m) (1 ∷ s)))
both_past (p ∷ l) [] r s k total a b fl fm pl pm e =
    absurd (unlike p l s r k total (omega arith) fl (omega arith) (sym (tail 1 1 ((sized p ++ entries l) ++ 1 ∷ r) s e) ∙ regroup p (entries l) (1 ∷ r)))
both_past (p ∷ l) (q ∷ m) r s k total a b fl fm pl pm e =
    let more = tail 1 1 ((sized p ++ entries l) ++ 1 ∷ r) ((sized q ++ entries m) ++ 1 ∷ s) e in
    let apart = sym (regroup p (entries l) (1 ∷ r)) ∙ more ∙ regroup q (entries m) (1 ∷ s) in
    let cut = halves (to_be_bytes w32 (length p)) (to_be_bytes w32 (length q)) _ _ refl apart in
    let lp = length-append (to_be_bytes w32 (length p)) p in
    let lq = length-append (to_be_bytes w32 (length q)) q in
    let lpl = length-append (sized p) (entries l) in
    let lqm = length-append (sized q) (entries m) in
    let fp : length p < 2 ^ 32 = omega (arith, lp, lpl) in
    let fq : length q < 2 ^ 32 = omega (arith, lq, lqm) in
    let long = sizes (length p) (length q) fp fq cut.0 in
    let parts = halves p q _ _ long cut.1 in
    let rec = both_past l m r s (k + 5 + length p) total (omega (arith, lp, lpl)) (omega (arith, lq, lqm, long)) (omega (arith, lp, lpl)) (omega (arith, lq, lqm, long)) (omega (arith, lp, lpl)) (omega (arith, lq, lqm, long)) parts.1 in
    omega (arith, rec, long, lp, lpl, lq, lqm)

-- what runs past the end begins with the header, and is longer
begins : (b : List ℕ) (at : ℕ) → RunsPast b at → take 16 b ≡ header
unfolding front
begins b at past = ap (λ (x : List ℕ). take 16 x) (past.is ∙ append_assoc header (entries past.list) (1 ∷ past.rest)) ∙ take_at header (entries past.list ++ 1 ∷ past.rest) 16 refl

longer : (b : List ℕ) (at : ℕ) → RunsPast b at → 16 < length b
unfolding front
longer b at past = omega (arith, ap length past.is, length-append (header ++ entries past.list) (1 ∷ past.rest), length-append header (entries past.list))

same_past : (b : List ℕ) (one other : ℕ) → RunsPast b one → RunsPast b other → one ≡ other
unfolding front
same_past b one other x y =
    let both = append_cancel_left header _ _ (sym (append_assoc header (entries x.list) (1 ∷ x.rest)) ∙ sym x.is ∙ y.is ∙ append_assoc header (entries y.list) (1 ∷ y.rest)) in
    let lx = length-append header (entries x.list) in
    let ly = length-append header (entries y.list) in
    let tx = length-append (header ++ entries x.list) (1 ∷ x.rest) in
    let ty = length-append (header ++ entries y.list) (1 ∷ y.rest) in
    let bx = ap length x.is in
    let by = ap length y.is in
    let same = both_past x.list y.list x.rest y.rest 16 (length b) (omega (arith, bx, tx, lx)) (omega (arith, by, ty, ly)) (omega (arith, x.here, x.within, lx)) (omega (arith, y.here, y.within, ly))
    (omega (arith, x.here, x.past, lx)) (omega (arith, y.here, y.past, ly)) both in
    omega (arith, same, x.here, y.here, lx, ly)

pub one_place : (b : List ℕ) (one other : ℕ) → IsNoJournal b one → IsNoJournal b other → one ≡ other
one_place b one other (inl x) (inl y) = x.0 ∙ sym y.0
one_place b one other (inl x) (inr (inl y)) = absurd (x.1 (ap (λ (l : List ℕ). take 16 l) y.1))
one_place b one other (inl x) (inr (inr y)) = absurd (x.1 (begins b other y))
one_place b one other (inr (inl x)) (inl y) = absurd (y.1 (ap (λ (l : List ℕ). take 16 l) x.1))
one_place b one other (inr (inl x)) (inr (inl y)) = x.0 ∙ sym y.0
one_place b one other (inr (inl x)) (inr (inr y)) = let long = longer b other y in absurd (omega (arith, long, ap length x.1))
one_place b one other (inr (inr x)) (inl y) = absurd (y.1 (begins b one x))
one_place b one other (inr (inr x)) (inr (inl y)) = let long = longer b one x in absurd (omega (arith, long, ap length y.1))
one_place b one other (inr (inr x)) (inr (inr y)) = same_past b one other x y
