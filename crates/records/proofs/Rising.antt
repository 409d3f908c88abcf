-- Rising numbers: the place of one, and where one goes.
use Rattle.std.proofs.Common.{◌≡◌, ℕ, zero, suc, ◌<◌, ◌≤◌, List, [], ◌∷◌, length, get_or, Result, Ok, Err, arith}
use Rattle.std.specs.Prelude.{MatchResult}
use Rattle.records.specs.Seen.{IsBelow, AreRising, IsThere, IsGap}

-- what is below all of them
pub below_at : (n : ℕ) (ns : List ℕ) → IsBelow n ns → (k : ℕ) → k < length ns → n < get_or ns k 0
below_at n [] h k lt = absurd (omega arith)
below_at n (m ∷ ms) h zero lt = h.0
below_at n (m ∷ ms) h (suc k) lt = below_at n ms h.1 k (omega arith)

-- a later one is greater
pub rising : (ns : List ℕ) → AreRising ns → (i j : ℕ) → i ≤ j → j < length ns → get_or ns i 0 ≤ get_or ns j 0
rising [] h i j le lt = absurd (omega arith)
rising (n ∷ ns) h zero zero le lt = omega arith
rising (n ∷ ns) h zero (suc j) le lt = let b = below_at n ns h.0 j (omega arith) in omega arith
rising (n ∷ ns) h (suc i) zero le lt = absurd (omega arith)
rising (n ∷ ns) h (suc i) (suc j) le lt = rising ns h.1 i j (omega arith) (omega arith)

-- what a search says
pub searched_is : (ns : List ℕ) (n : ℕ) (r : Result ℕ ℕ) → MatchResult r (λ i. (i < length ns) × (get_or ns i 0 ≡ n)) (λ i. (i ≤ length ns) × ((k : ℕ) → k < i → get_or ns k 0 < n) × ((k : ℕ) → i ≤ k → k < length ns → n < get_or ns k 0))
    → MatchResult r (IsThere ns n) (IsGap ns n)
searched_is ns n (Ok i) h = record { within = h.0; is = h.1 }
searched_is ns n (Err i) h = record { within = h.0; smaller = h.1; greater = h.2 }
