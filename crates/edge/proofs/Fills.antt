-- What a fill leaves in the ranges.
use Rattle.std.proofs.Common.{◌≡◌, ◌⊎◌, inl, inr, ⊎_elim, ℕ, ◌+◌, ◌-◌, ◌%◌, ◌≤◌, ◌<◌, List, [], ◌∷◌, ◌++◌, length, get_or, take, refl, sym, ◌∙◌, ap, arith, false}
use Rattle.std.proofs.lemmas.Bool.Decides.{nat_tests}
use Rattle.std.proofs.lemmas.List.{take_more}
use Rattle.edge.specs.declared.disk_store.Span.{Span}
use Rattle.edge.specs.Stored.{filled_byte, IsCovered}
use Rattle.std.specs.Prelude.{nat_lt}
use Rattle.edge.proofs.Put.{below_or_not}

-- one range that holds the fill
pub filled_one : (fill : List ℕ) (s : Span) (k x old : ℕ) → 0 < length fill → (s.at ≤ k → k < s.at + s.size → x ≡ get_or fill ((k - s.at) % length fill) 0) → ((k < s.at) ⊎ (s.at + s.size ≤ k) → x ≡ old)
    → x ≡ filled_byte fill (s ∷ []) k old
filled_one fill s k x old some inside outside = ⊎_elim
    (λ from. ⊎_elim (λ past. let e = outside (inr past) in grind (arith, nat_tests)) (λ lt. let e = inside from lt in grind (arith, nat_tests)) (below_or_not (s.at + s.size) k))
    (λ low. let e = outside (inl low) in grind (arith, nat_tests))
    (below_or_not s.at k)

-- an empty fill changes nothing
pub filled_none : (fill : List ℕ) (spans : List Span) (k byte : ℕ) → length fill ≡ 0 → filled_byte fill spans k byte ≡ byte
filled_none fill [] k byte none = refl
filled_none fill (s ∷ spans) k byte none =
    let ih = filled_none fill spans k byte none in
    let none_lt : (nat_lt 0 (length fill)) ≡ false = grind (arith, nat_tests) in grind (arith, nat_tests)

-- one range more
pub filled_append : (fill : List ℕ) (spans : List Span) (s : Span) (k byte : ℕ) → filled_byte fill (spans ++ s ∷ []) k byte ≡ filled_byte fill (s ∷ []) k (filled_byte fill spans k byte)
filled_append fill [] s k byte = refl
filled_append fill (t ∷ spans) s k byte = filled_append fill spans s k _

-- a place in no range keeps its byte
pub filled_uncovered : (fill : List ℕ) (spans : List Span) (k byte : ℕ) → (IsCovered spans k → ⊥) → filled_byte fill spans k byte ≡ byte
filled_uncovered fill [] k byte free = refl
filled_uncovered fill (s ∷ spans) k byte free =
    let rest : (b : ℕ) → filled_byte fill spans k b ≡ b = λ b. filled_uncovered fill spans k b (λ c. free (inr c)) in
    let outside : (s.at ≤ k) → (k < s.at + s.size) → ⊥ = λ a b. free (inl (a, b)) in
    sym (filled_one_outside fill s k byte outside ∙ sym (rest _))
  where
    filled_one_outside : (fill : List ℕ) (s : Span) (k byte : ℕ) → (s.at ≤ k → k < s.at + s.size → ⊥) → byte ≡ filled_byte fill (s ∷ []) k byte
    filled_one_outside fill s k byte out = ⊎_elim
        (λ from. ⊎_elim (λ past. grind (arith, nat_tests)) (λ lt. absurd (out from lt)) (below_or_not (s.at + s.size) k))
        (λ low. grind (arith, nat_tests))
        (below_or_not s.at k)

-- one turn of a loop over ranges
pub filled_turn : (fill : List ℕ) (spans : List Span) (i k byte now : ℕ) (s : Span) → i < length spans → now ≡ filled_byte fill (take i spans) k byte
    → filled_byte fill (get_or spans i s ∷ []) k now ≡ filled_byte fill (take (i + 1) spans) k byte
filled_turn fill spans i k byte now s here is =
    ap (λ (b : ℕ). filled_byte fill (get_or spans i s ∷ []) k b) is ∙ sym (filled_append fill (take i spans) (get_or spans i s) k byte)
    ∙ ap (λ (l : List Span). filled_byte fill l k byte) (sym (take_more spans i s here))
