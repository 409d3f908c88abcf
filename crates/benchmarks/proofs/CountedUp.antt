-- A number that was counted up is not 0.
use Rattle.std.proofs.Common.{◌≡◌, ◌≢◌, ◌+◌, ◌==◌, ℕ, false, arith}
use Rattle.std.proofs.lemmas.Bool.Decides.{nat_tests}

pub one_more : (n : ℕ) → (n + 1 == 0) ≡ false
one_more n = no (n + 1) 0 (λ z. let h : n + 1 ≡ 0 = z in omega arith)
  where
    no : (a b : ℕ) → a ≢ b → (a == b) ≡ false
    no a b e = grind (arith, nat_tests)
