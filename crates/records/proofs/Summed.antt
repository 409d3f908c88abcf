-- Sums with no container more.
use Rattle.std.proofs.Common.{◌≡◌, ℕ, ◌+◌, ◌-◌, ◌^◌, ◌≤◌, [], min, arith}
use Rattle.records.specs.declared.sums.Sums.{Sums}
use Rattle.records.specs.Sums.{sums_with}

-- Each sum is within its type.
pub record AreWithin (s : Sums) : Type 0 where
  pub octets : s.octets ≤ 2 ^ 64 - 1
  pub changes : s.changes ≤ 2 ^ 32 - 1
  pub containers : s.containers ≤ 2 ^ 32 - 1

within : (n m : ℕ) → n ≤ m → min (n + 0) m ≡ n
within n m h = omega arith

pub sums_with-none : (s : Sums) → AreWithin s → sums_with s [] ≡ s
sums_with-none s w =
    let a = within s.octets (2 ^ 64 - 1) w.octets in let b = within s.changes (2 ^ 32 - 1) w.changes in let c = within s.containers (2 ^ 32 - 1) w.containers in
    λ i. record { octets = a i; changes = b i; containers = c i }
