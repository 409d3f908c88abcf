-- Trigger types in their order, and the categories of this product's trigger table (TS 32.291, 6.1.6.3.6 and 6.1.6.3.7).
use Rattle.std.specs.Prelude.{ℕ, ◌==◌, Bool, true, false}
use Rattle.units.specs.declared.trigger.TriggerType.{TriggerType}
use Rattle.units.specs.declared.trigger.TriggerType.TheVariants.{Final, QuotaExhausted, QuotaThreshold, ValidityTime, QuotaHoldingTime, TariffTimeChange, VolumeLimit, TimeLimit, ForcedReauthorisation, QosChange, RatChange, PlmnChange, UserLocationChange, UeTimezoneChange, SessionAmbrChange, ServingNodeChange, ManagementIntervention, MaxNumberOfChangesInChargingConditions, AbnormalRelease}

-- the order of the types (this product's own)
abbrev pub order_of : TriggerType → ℕ
order_of Final = 0
order_of QuotaExhausted = 1
order_of QuotaThreshold = 2
order_of ValidityTime = 3
order_of QuotaHoldingTime = 4
order_of TariffTimeChange = 5
order_of VolumeLimit = 6
order_of TimeLimit = 7
order_of ForcedReauthorisation = 8
order_of QosChange = 9
order_of RatChange = 10
order_of PlmnChange = 11
order_of UserLocationChange = 12
order_of UeTimezoneChange = 13
order_of SessionAmbrChange = 14
order_of ServingNodeChange = 15
order_of ManagementIntervention = 16
order_of MaxNumberOfChangesInChargingConditions = 17
order_of AbnormalRelease = 18

-- two types are the same: they have one place in that order
abbrev pub same_type : TriggerType → TriggerType → Bool
same_type a b = order_of a == order_of b

-- whether a type is of immediate category where no rule says otherwise (this product's own table)
abbrev pub is_immediate_by_default : TriggerType → Bool
is_immediate_by_default Final = true
is_immediate_by_default QuotaExhausted = true
is_immediate_by_default QuotaThreshold = true
is_immediate_by_default ValidityTime = true
is_immediate_by_default QuotaHoldingTime = true
is_immediate_by_default VolumeLimit = true
is_immediate_by_default TimeLimit = true
is_immediate_by_default ForcedReauthorisation = true
is_immediate_by_default PlmnChange = true
is_immediate_by_default ManagementIntervention = true
is_immediate_by_default other = false
