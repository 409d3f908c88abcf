-- Tests of numbers, and what they say.
use Rattle.std.proofs.Common.{◌≡◌, ℕ, ◌<◌, ◌≤◌, ◌==◌, true, false, nat_lt, nat_le, arith}
use Rattle.std.proofs.lemmas.Bool.Decides.{nat_tests}

pub is_lt : (a b : ℕ) → a < b → nat_lt a b ≡ true
is_lt a b l = grind (arith, nat_tests)

pub lt_is : (a b : ℕ) → nat_lt a b ≡ true → a < b
lt_is a b l = grind (arith, nat_tests)

pub le_is : (a b : ℕ) → a ≤ b → nat_le a b ≡ true
le_is a b l = grind (arith, nat_tests)

pub gt_is : (a b : ℕ) → b < a → nat_le a b ≡ false
gt_is a b l = grind (arith, nat_tests)

pub is_eq : (a b : ℕ) → (a == b) ≡ true → a ≡ b
is_eq a b h = grind (arith, nat_tests)

pub eq_is : (a : ℕ) → (a == a) ≡ true
eq_is a = grind (arith, nat_tests)
