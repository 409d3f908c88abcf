-- When the prices of a rating group change (tariff time change: TS 32.291, 6.1.6.2.1.9; whole UTC hours in a daily pattern are this product's own).
use Rattle.std.specs.Prelude.{◌≡◌, ℕ, ◌+◌, ◌*◌, ◌/◌, ◌%◌, ◌<◌, ◌==◌, ◌&&◌, min, nat_le, nat_lt, Bool, true, false, List, [], ◌∷◌, length, Option, Some, None, if◌then◌else◌}
use Rattle.std.specs.List.{list_any}
use Rattle.units.specs.Limits.{greatest_moment}
use Rattle.rating.specs.declared.period.Period.{Period}
use Rattle.rating.specs.Tariff.{periods}
use Rattle.rating.specs.Price.{hour_of}

-- a switch of periods, where they are at least two: a moment in range, at a whole hour, whose hour of the day is listed
abbrev pub switches : List Period → ℕ → Bool
switches periods moment = nat_le 2 (length periods) && (nat_le moment greatest_moment && ((moment % 3600 == 0) && list_any (λ p. p.hour == hour_of moment) periods))

-- a switch of a group
abbrev pub is_switch : List (List (List ℕ)) → ℕ → ℕ → Bool
is_switch rows group moment = switches (periods rows group) moment

-- the first moment strictly after that one at which an hour of the day begins
abbrev pub next_at : ℕ → ℕ → ℕ
next_at after hour =
    let today = after / 86400 * 86400 + hour * 3600 in
    if nat_lt after today then today else today + 86400

-- the least of two moments, of which one may be wanting
abbrev pub sooner : ℕ → Option ℕ → ℕ
sooner moment None = moment
sooner moment (Some other) = min moment other

-- the first moment strictly after that one at which a listed hour begins
abbrev pub soonest : ℕ → List Period → Option ℕ
soonest after [] = None
soonest after (p ∷ ps) = Some (sooner (next_at after p.hour) (soonest after ps))

-- a moment within the range of moments
abbrev pub in_range : Option ℕ → Option ℕ
in_range None = None
in_range (Some moment) = if nat_le moment greatest_moment then Some moment else None

-- the first listed hour strictly after a moment, where there are at least two periods and it is in range
abbrev pub switch_after : List Period → ℕ → Option ℕ
switch_after periods after = if nat_le 2 (length periods) then in_range (soonest after periods) else None

-- so for a group
abbrev pub next_switch : List (List (List ℕ)) → ℕ → ℕ → Option ℕ
next_switch rows group after = switch_after (periods rows group) after

-- no switch lies after a moment and below another
abbrev pub NoSwitchBefore : (ℕ → Bool) → ℕ → ℕ → Type 0
NoSwitchBefore switches after until = (moment : ℕ) → after < moment → moment < until → switches moment ≡ false

-- this is the first switch strictly after a moment; there is none exactly where no later moment is a switch
abbrev pub IsFirstSwitch : (ℕ → Bool) → ℕ → Option ℕ → Type 0
IsFirstSwitch switches after None = (moment : ℕ) → after < moment → switches moment ≡ false
IsFirstSwitch switches after (Some moment) = (after < moment) × (switches moment ≡ true) × NoSwitchBefore switches after moment
