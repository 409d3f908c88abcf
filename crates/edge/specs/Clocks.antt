-- What a clock tells of the moments to come (this product's own).
use Rattle.std.specs.Prelude.{ℕ, ◌≡◌, ◌+◌, ◌*◌, min, Option, IfSome}
use Rattle.units.specs.Limits.{greatest_moment}

-- the moments of the calls to come, from 0, before and after one that answered this moment
pub record HasTold (before after : ℕ → Option ℕ) (moment : ℕ) : Type 0 where
  pub first : IfSome (before 0) (λ told. moment ≡ told)
  pub rest : (n : ℕ) → after n ≡ before (n + 1)

-- the next moment of a clock that goes by steps, and the seconds of a step
pub record Stepping : Type 0 where
  pub next : ℕ
  pub step : ℕ

-- the moment of its n-th call to come, from 0: a step after the one before, up to the last moment
abbrev pub moment_of : Stepping → ℕ → ℕ
moment_of clock n = min (clock.next + n * clock.step) greatest_moment
