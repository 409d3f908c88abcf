-- The first unsafe hour of a group.
use Rattle.std.proofs.Common.{◌≡◌, ℕ, ◌<◌, ◌≤◌, nat_le, Bool, true, false, Option, Some, None, refl, sym, subst, arith}
use Rattle.std.specs.Prelude.{◌↔◌, IsSome, IfSome}
use Rattle.std.proofs.lemmas.Bool.Decides.{nat_tests}
use mathlib.Core.Bool.{true≢false}
use Rattle.units.specs.declared.report.Container.{Container}
use Rattle.meter.specs.declared.horizon.Horizon.{Horizon}
use Rattle.meter.specs.Horizons.{is_unsafe, least_unsafe, IsNextSwitch}
use Rattle.meter.specs.Meter.{Contents, open_of, horizon_of, IsFirstUnsafe, IsFirstUnsafeAfter}
use Rattle.meter.proofs.Unsafe.{IsLeast, least_is}

after_last : (h : Option Horizon) (c : Container) (hour : ℕ) (result : Option ℕ) → IsNextSwitch (is_unsafe h) c.last hour → IsSome result ↔ (hour ≤ 3155759999) → IfSome result (λ m. m ≡ hour) → IsFirstUnsafeAfter h (Some c) result
after_last h c hour None next range value = λ moment later before. next.least moment later (by (nat_le hour 3155759999) refl moment before)
  where
    by : (b : Bool) → nat_le hour 3155759999 ≡ b → (moment : ℕ) → moment ≤ 3155759999 → moment < hour
    by true e moment before = absurd (true≢false (sym (range.1 (grind (arith, nat_tests, e)))))
    by false e moment before = grind (arith, nat_tests, e)
after_last h c hour (Some m) next range value = subst (IsNextSwitch (is_unsafe h) c.last) (sym value) next

pub first_is : (s : Contents) (g : ℕ) (c : Container) (hour : ℕ) (result : Option ℕ) → open_of s g ≡ Some c → least_unsafe (horizon_of s g) c.last ≡ Some hour → IsSome result ↔ (hour ≤ 3155759999) → IfSome result (λ m. m ≡ hour) → IsFirstUnsafe s g result
first_is s g c hour result is next range value =
    let least : IsNextSwitch (is_unsafe (horizon_of s g)) c.last hour = subst (IsLeast (horizon_of s g) c.last) next (least_is (horizon_of s g) c.last) in
    subst (λ o. IsFirstUnsafeAfter (horizon_of s g) o result) (sym is) (after_last (horizon_of s g) c hour result least range value)
