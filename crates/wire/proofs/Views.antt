-- The bytes between two places of a buffer, after a read and after some were taken off.
use Rattle.std.proofs.Common.{◌≡◌, ℕ, ◌+◌, ◌-◌, ◌≤◌, List, ◌++◌, length, take, drop, arith, sym, ◌∙◌, ap, length-drop}
use Rattle.std.proofs.lemmas.List.{drop-drop, drop-take, length-take}
use Rattle.std.proofs.Math.Seq.{take-add}

split : (i j : ℕ) → i ≤ j → j ≡ i + (j - i)
split i j le = omega arith

sized : (items : List ℕ) (from to : ℕ) → from ≤ to → to ≤ length items → length (take (to - from) (drop from items)) ≡ to - from
sized items from to le fits = omega (arith, length-take (to - from) (drop from items), length-drop from items)

-- what stands between two places depends on what stands before the second alone
pub between : (old now : List ℕ) (from to : ℕ) → from ≤ to → take to now ≡ take to old → take (to - from) (drop from now) ≡ take (to - from) (drop from old)
between old now from to le same =
    sym (front_is now) ∙ ap (drop from) same ∙ front_is old where
      front_is : (items : List ℕ) → drop from (take to items) ≡ take (to - from) (drop from items)
      front_is items = ap (λ k. drop from (take k items)) (split from to le) ∙ drop-take from (to - from) items

-- bytes that were put behind those held
pub grown : (old now : List ℕ) (from to count : ℕ) → from ≤ to → to + count ≤ length now → take to now ≡ take to old
    → take (to + count - from) (drop from now) ≡ take (to - from) (drop from old) ++ take count (drop to now)
grown old now from to count le fits same =
    let many : to + count - from ≡ (to - from) + count = omega arith in
    let there : drop (to - from) (drop from now) ≡ drop to now = drop-drop (to - from) from now ∙ ap (λ k. drop k now) (sym (split from to le)) in
    ap (λ k. take k (drop from now)) many ∙ take-add (to - from) count (drop from now) ∙ (λ i. between old now from to le same i ++ take count (there i))

-- bytes that were taken off
pub dropped : (old : List ℕ) (from to size : ℕ) → size ≤ to - from → take (to - (from + size)) (drop (from + size) old) ≡ drop size (take (to - from) (drop from old))
dropped old from to size le =
    let rest : to - from ≡ size + (to - (from + size)) = omega arith in
    sym (ap (λ k. drop size (take k (drop from old))) rest ∙ drop-take size (to - (from + size)) (drop from old) ∙ ap (take (to - (from + size))) (drop-drop size from old))
