-- The effect of each trigger on its group's quota (TS 32.255, 5.2.1; the table is this product's profile).
use Rattle.std.specs.Prelude.{Bool, true, false}
use Rattle.units.specs.declared.trigger.TriggerType.{TriggerType}
use Rattle.units.specs.declared.trigger.TriggerType.TheVariants.{Final, QuotaExhausted, QuotaThreshold, ValidityTime, QuotaHoldingTime, ForcedReauthorisation}
use Rattle.quotas.specs.declared.standing.Standing.{Standing}
use Rattle.quotas.specs.declared.standing.Standing.TheVariants.{Nothing}
use Rattle.quotas.specs.Standing.{is_granted, spent}

-- quota that is used up, nearly used up or out of date is wished for, and after a reauthorisation what is granted is (TS 32.255, 5.2.1)
abbrev pub sets_wish : TriggerType → Standing → Bool
sets_wish QuotaExhausted standing = true
sets_wish QuotaThreshold standing = true
sets_wish ValidityTime standing = true
sets_wish ForcedReauthorisation standing = is_granted standing
sets_wish other standing = false

-- the triggers that set a wish where units are granted (TS 32.255, 5.2.1)
abbrev pub wants_quota : TriggerType → Bool
wants_quota QuotaExhausted = true
wants_quota QuotaThreshold = true
wants_quota ValidityTime = true
wants_quota ForcedReauthorisation = true
wants_quota other = false

-- last units and unused quota are given back in the next request (TS 32.290, quota management)
abbrev pub returns_quota : TriggerType → Bool
returns_quota Final = true
returns_quota QuotaHoldingTime = true
returns_quota other = false

-- last units are spent, and quota that was held for too long is gone (TS 32.290, quota management)
abbrev pub standing_after : TriggerType → Standing → Standing
standing_after Final standing = spent standing
standing_after QuotaHoldingTime standing = Nothing
standing_after other standing = standing
