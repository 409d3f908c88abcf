-- What usage of a rating group costs at a moment (TS 32.290, rating; linear in octets and seconds by this product's own profile).
use Rattle.std.specs.Prelude.{ℕ, ◌+◌, ◌*◌, ◌/◌, ◌%◌, min, nat_le, List, [], ◌∷◌, Option, Some, None, filter}
use Rattle.std.specs.Option.{option_or}
use Rattle.units.specs.Limits.{greatest_moment}
use Rattle.units.specs.declared.report.Report.{Report}
use Rattle.units.specs.declared.report.Container.{Container}
use Rattle.rating.specs.declared.period.Period.{Period}
use Rattle.rating.specs.Tariff.{periods}

-- a moment, which ends at the last one, 2069-12-31T23:59:59Z
abbrev pub in_time : ℕ → ℕ
in_time moment = min moment greatest_moment

-- the hour of the UTC day
abbrev pub hour_of : ℕ → ℕ
hour_of moment = (moment / 3600) % 24

-- the last of a list
abbrev pub last_of : {X : Type 0} → List X → Option X
last_of [] = None
last_of (x ∷ []) = Some x
last_of (x ∷ y ∷ xs) = last_of (y ∷ xs)

-- the period that holds an hour: that of the greatest listed hour not above it, else that of the last listed hour; hours ascend within a group
abbrev pub period_at : ℕ → List Period → Option Period
period_at hour periods = option_or (last_of (filter (λ p. nat_le p.hour hour) periods)) (last_of periods)

-- what octets and seconds cost by the prices of a period
abbrev pub cost : Option Period → ℕ → ℕ → ℕ → ℕ
cost None up down seconds = 0
cost (Some p) up down seconds = up * p.up + down * p.down + seconds * p.seconds

-- the price of usage of a group at a moment, by the period of the group that holds it; 0 for a group without a tariff
abbrev pub price : List (List (List ℕ)) → ℕ → ℕ → ℕ → ℕ → ℕ → ℕ
price rows group up down seconds moment = cost (period_at (hour_of (in_time moment)) (periods rows group)) up down seconds

-- the price of a report: of its own amounts at its own moment
abbrev pub report_price : List (List (List ℕ)) → Report → ℕ
report_price rows r = price rows r.group r.up r.down r.seconds r.moment

-- the price of a container: of its sums at its first moment
abbrev pub container_price : List (List (List ℕ)) → Container → ℕ
container_price rows c = price rows c.group c.up c.down c.seconds c.first
