-- Whether two setups are the same (this product's own).
use Rattle.std.specs.Prelude.{◌≡◌, ◌&&◌, nat_eq, Bool}
use Rattle.std.specs.Bool.{Decides}
use Rattle.std.specs.Cmp.{booleans_Decides}
use mathlib.Core.Bool.{beq}
use Rattle.units.specs.Same.{nat_decides, and_decides, decides_to}
use Rattle.chf_core.specs.declared.setup.ChfSetup.{ChfSetup}

-- the fields tell whether two setups are
pub setup_decides : (tariffs_same counters_same limits_same : Bool) (a b : ChfSetup) → Decides tariffs_same (a.tariffs ≡ b.tariffs) → Decides counters_same (a.counters ≡ b.counters) → Decides limits_same (a.limits ≡ b.limits) → Decides (tariffs_same && (counters_same && (limits_same && ((nat_eq a.grace b.grace) && (beq a.failover b.failover))))) (a ≡ b)
setup_decides tariffs_same counters_same limits_same a b tariffs counters limits =
    decides_to _ (and_decides _ _ tariffs (and_decides _ _ counters (and_decides _ _ limits (and_decides _ _ (nat_decides a.grace b.grace) (booleans_Decides a.failover b.failover)))))
    (λ e i. record { tariffs = e.0 i; counters = e.1.0 i; limits = e.1.1.0 i; grace = e.1.1.1.0 i; failover = e.1.1.1.1 i })
    (λ e. (λ i. (e i).tariffs, (λ i. (e i).counters, (λ i. (e i).limits, (λ i. (e i).grace, λ i. (e i).failover)))))
