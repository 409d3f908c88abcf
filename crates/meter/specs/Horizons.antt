-- Whole hours at which a rating group's tariff may switch for all that is known (TS 32.291, tariffTimeChange; horizons are this product's own).
use Rattle.std.specs.Prelude.{◌≡◌, ℕ, ◌+◌, ◌*◌, ◌/◌, ◌<◌, ◌&&◌, not, nat_lt, nat_le, Bool, true, false, Option, None, Some, if◌then◌else◌, option_map}
use Rattle.units.specs.Cut.{whole_hour}
use Rattle.meter.specs.declared.horizon.Horizon.{Horizon}

-- before the end, where there is one
abbrev pub is_before : ℕ → Option ℕ → Bool
is_before moment None = true
is_before moment (Some end) = nat_lt moment end

-- strictly within the horizon: after its start and before its end
abbrev pub is_within : Option Horizon → ℕ → Bool
is_within None moment = false
is_within (Some h) moment = nat_lt h.from moment && is_before moment h.until

-- an unsafe hour: a whole hour that is not strictly within the horizon
abbrev pub is_unsafe : Option Horizon → ℕ → Bool
is_unsafe horizon moment = whole_hour moment && not (is_within horizon moment)

-- the first switch after the moment
pub record IsNextSwitch (switches : ℕ → Bool) (after hour : ℕ) : Type 0 where
  pub later : after < hour
  pub switch : switches hour ≡ true
  pub least : (moment : ℕ) → after < moment → moment < hour → switches moment ≡ false

-- switches that the group's horizon allows for: whole hours, none strictly within it
pub record AreForeseen (horizon : Option Horizon) (switches : ℕ → Bool) : Type 0 where
  pub hours : (moment : ℕ) → switches moment ≡ true → whole_hour moment ≡ true
  pub none_within : (moment : ℕ) → is_within horizon moment ≡ true → switches moment ≡ false

-- the least whole hour after the moment
abbrev pub next_hour : ℕ → ℕ
next_hour moment = 3600 * (moment / 3600 + 1)

-- the least whole hour at the moment or after it
abbrev pub hour_from : ℕ → ℕ
hour_from moment = 3600 * ((moment + 3599) / 3600)

-- the first whole hour at or after the horizon's end
abbrev pub hour_of_end : Option Horizon → Option ℕ
hour_of_end None = None
hour_of_end (Some h) = option_map hour_from h.until

-- the least unsafe hour after the moment, where there is one
abbrev pub least_unsafe : Option Horizon → ℕ → Option ℕ
least_unsafe horizon after = if is_within horizon (next_hour after) then hour_of_end horizon else Some (next_hour after)

-- there is an hour, and it is at most the moment
abbrev pub is_at_most : Option ℕ → ℕ → Bool
is_at_most None moment = false
is_at_most (Some hour) moment = nat_le hour moment

-- whether an unsafe hour lies after the one moment and not after the other
abbrev pub has_unsafe : Option Horizon → ℕ → ℕ → Bool
has_unsafe horizon after until = is_at_most (least_unsafe horizon after) until
