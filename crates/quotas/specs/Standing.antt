-- What a rating group may use: what an answer sets, what is left of it, and what ends it (TS 32.290, quota management; 32.291, MultipleUnitInformation).
use Rattle.std.specs.Prelude.{ℕ, ◌-◌, ◌==◌, Bool, true, false, if◌then◌else◌, Option, Some, None, unwrap_or}
use Rattle.units.specs.declared.answer.UnitInfo.{UnitInfo}
use Rattle.units.specs.declared.answer.Code.{Code}
use Rattle.units.specs.declared.answer.Code.TheVariants.{Success, Denied as EndUserServiceDenied, NotApplicable, LimitReached, RatingFailed}
use Rattle.units.specs.declared.answer.Amount.{Amount}
use Rattle.units.specs.declared.answer.Amount.TheVariants.{Volume, Seconds}
use Rattle.units.specs.declared.answer.Action.{Action}
use Rattle.quotas.specs.declared.state.State.{State}
use Rattle.quotas.specs.declared.state.State.TheVariants as states
use Rattle.quotas.specs.declared.standing.Terms.{Terms}
use Rattle.quotas.specs.declared.standing.Standing.{Standing}
use Rattle.quotas.specs.declared.standing.Standing.TheVariants.{Nothing, Granted, Unlimited, Denied, Spent, Free}

-- what is left of the amount, at least 0: octets of a volume, seconds of a time (TS 32.290, quota management)
abbrev pub left_of : Amount → ℕ → ℕ → ℕ
left_of (Volume volume) octets seconds = volume - octets
left_of (Seconds time) octets seconds = time - seconds

-- the threshold of the granted kind, 0 for none (TS 32.291, volumeQuotaThreshold and timeQuotaThreshold)
abbrev pub threshold_of : Amount → UnitInfo → ℕ
threshold_of (Volume volume) info = unwrap_or info.volume_threshold 0
threshold_of (Seconds time) info = unwrap_or info.time_threshold 0

-- the terms of a grant: the request's time stamp and the entry's fields, 0 for what it does not give (TS 32.291, MultipleUnitInformation)
abbrev pub terms_of : ℕ → UnitInfo → Amount → Terms
terms_of stamp info amount = record { amount = amount; stamp = stamp; threshold = threshold_of amount info; validity = unwrap_or info.validity 0; holding = unwrap_or info.holding 0; last_units = info.last_units }

-- SUCCESS grants these units, or manages no quota where it grants neither a volume nor a time (this product's own)
abbrev pub granted_by : ℕ → UnitInfo → Option Amount → Standing
granted_by stamp info None = Unlimited
granted_by stamp info (Some amount) = Granted (terms_of stamp info amount)

-- what an entry sets, by its result code (TS 32.291, ResultCode)
abbrev pub set_by : Code → ℕ → UnitInfo → Standing
set_by Success stamp info = granted_by stamp info info.grant
set_by NotApplicable stamp info = Unlimited
set_by EndUserServiceDenied stamp info = Denied
set_by LimitReached stamp info = Denied
set_by RatingFailed stamp info = Denied

-- the state without what belongs to it (this product's own)
abbrev pub state_of : Standing → State
state_of Nothing = states.Nothing
state_of (Granted terms) = states.Granted
state_of Unlimited = states.Unlimited
state_of Denied = states.Denied
state_of (Spent action) = states.Spent
state_of Free = states.Free

-- units are granted
abbrev pub is_granted : Standing → Bool
is_granted (Granted terms) = true
is_granted other = false

-- no quota is managed
abbrev pub is_unlimited : Standing → Bool
is_unlimited Unlimited = true
is_unlimited other = false

-- the session goes on without quota
abbrev pub is_free : Standing → Bool
is_free Free = true
is_free other = false

-- without a CHF: each group that is not unlimited and has no use left goes on free of quota (failure handling CONTINUE of TS 32.290)
abbrev pub without : Standing → ℕ → ℕ → Standing
without Unlimited octets seconds = Unlimited
without (Granted terms) octets seconds = if left_of terms.amount octets seconds == 0 then Free else Granted terms
without Nothing octets seconds = Free
without Denied octets seconds = Free
without (Spent action) octets seconds = Free
without Free octets seconds = Free

-- last units that are used up leave their action (TS 32.291, FinalUnitIndication)
abbrev pub spent_by : Option Action → Terms → Standing
spent_by (Some action) terms = Spent action
spent_by None terms = Granted terms

-- so of granted units; without them there is nothing to spend
abbrev pub spent : Standing → Standing
spent (Granted terms) = spent_by terms.last_units terms
spent Nothing = Nothing
spent Unlimited = Unlimited
spent Denied = Denied
spent (Spent action) = Spent action
spent Free = Free
