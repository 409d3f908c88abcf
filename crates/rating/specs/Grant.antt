-- What a rating group is granted (result codes: TS 32.291, 6.1.6.3.14; the quota and what is set aside for it at the top price are this product's own).
use Rattle.std.specs.Prelude.{ℕ, ◌*◌, ◌/◌, ◌==◌, min, max, nat_lt, Bool, true, false, List, [], ◌∷◌, Option, Some, None, if◌then◌else◌}
use Rattle.units.specs.declared.answer.Code.{Code}
use Rattle.units.specs.declared.answer.Code.TheVariants.{Success, NotApplicable, LimitReached, RatingFailed}
use Rattle.units.specs.declared.request.Ask.{Ask}
use Rattle.rating.specs.declared.terms.Kind.{Kind}
use Rattle.rating.specs.declared.terms.Kind.TheVariants.{Volume, Time, Offline}
use Rattle.rating.specs.declared.period.Period.{Period}
use Rattle.rating.specs.declared.grant.Grant.{Grant}
use Rattle.rating.specs.Tariff.{GroupTariff, tariff}

-- the price of a unit of a kind in a period: of an octet up or down, whichever is more, or of a second
abbrev pub unit_price : Kind → Period → ℕ
unit_price Volume p = max p.up p.down
unit_price Time p = p.seconds
unit_price Offline p = 0

-- the top price: the greatest price of the kind over all periods
abbrev pub top_price : Kind → List Period → ℕ
top_price kind [] = 0
top_price kind (p ∷ ps) = max (unit_price kind p) (top_price kind ps)

-- the amount asked in units of the kind
abbrev pub asked : Kind → Ask → Option ℕ
asked Volume ask = ask.volume
asked Time ask = ask.seconds
asked Offline ask = None

-- the wish: the lesser of the chunk and the amount asked; an amount of 0 counts as none asked
abbrev pub wish_of : ℕ → Option ℕ → ℕ
wish_of chunk None = chunk
wish_of chunk (Some amount) = if amount == 0 then chunk else min chunk amount

-- the units: the wish, and at a top price above 0 at most what the free money buys
abbrev pub units_of : ℕ → ℕ → ℕ → ℕ
units_of wish top free = if top == 0 then wish else min wish (free / top)

-- quotas are managed of every kind but offline
abbrev pub is_managed : Kind → Bool
is_managed Volume = true
is_managed Time = true
is_managed Offline = false

-- a quota of units: QUOTA_LIMIT_REACHED where it is 0; what it sets aside is its units at the top price; final exactly where it is less than the wish
abbrev pub quota_of : ℕ → ℕ → ℕ → Grant
quota_of wish top units = record { code = (if units == 0 then LimitReached else Success); units = units; reserve = units * top; is_final = nat_lt units wish }

-- no quota, for that reason
abbrev pub no_quota : Code → Grant
no_quota code = record { code = code; units = 0; reserve = 0; is_final = false }

-- the quota at a wish and a top price, out of free money
abbrev pub quota : ℕ → ℕ → ℕ → Grant
quota wish top free = quota_of wish top (units_of wish top free)

-- the grant by a tariff: QUOTA_MANAGEMENT_NOT_APPLICABLE where it is offline
abbrev pub granted_by : GroupTariff → ℕ → Ask → Grant
granted_by t free ask = if is_managed t.terms.kind then quota (wish_of t.terms.chunk (asked t.terms.kind ask)) (top_price t.terms.kind t.periods) free else no_quota NotApplicable

-- the grant where there may be no tariff: RATING_FAILED where there is none
abbrev pub granted : Option GroupTariff → ℕ → Ask → Grant
granted None free ask = no_quota RatingFailed
granted (Some t) free ask = granted_by t free ask

-- the grant of a group, by the money that is free and the amount asked
abbrev pub grant : List (List (List ℕ)) → ℕ → ℕ → Ask → Grant
grant rows group free ask = granted (tariff rows group) free ask
