-- The words of charging messages (TS 32.291, 6.1.6.3 and 6.1.7; the sets are this product's profile).
use Rattle.std.specs.Prelude.{ℕ, Bool, true, false, List, [], ◌∷◌, Option, Some, None, bytes_eq, if◌then◌else◌, codes}
use Rattle.units.specs.declared.answer.Action.{Action}
use Rattle.units.specs.declared.answer.Action.TheVariants as action
use Rattle.units.specs.declared.answer.Code.{Code}
use Rattle.units.specs.declared.answer.Code.TheVariants.{Success, Denied, NotApplicable, LimitReached, RatingFailed}
use Rattle.units.specs.declared.answer.Handling.{Handling}
use Rattle.units.specs.declared.answer.Handling.TheVariants as handling
use Rattle.units.specs.declared.trigger.TriggerType.{TriggerType}
use Rattle.units.specs.declared.trigger.TriggerType.TheVariants.{Final, QuotaExhausted, QuotaThreshold, ValidityTime, QuotaHoldingTime, TariffTimeChange, VolumeLimit, TimeLimit, ForcedReauthorisation, QosChange, RatChange, PlmnChange, UserLocationChange, UeTimezoneChange, SessionAmbrChange, ServingNodeChange, ManagementIntervention, MaxNumberOfChangesInChargingConditions, AbnormalRelease}
use Rattle.units.specs.declared.words.Cause.{Cause}
use Rattle.units.specs.declared.words.Cause.TheVariants as cause

-- ---- trigger types (TS 32.291, 6.1.6.3.6)

-- a type as written
abbrev pub name_of_type : TriggerType → List ℕ
name_of_type Final = codes "FINAL"
name_of_type QuotaExhausted = codes "QUOTA_EXHAUSTED"
name_of_type QuotaThreshold = codes "QUOTA_THRESHOLD"
name_of_type ValidityTime = codes "VALIDITY_TIME"
name_of_type QuotaHoldingTime = codes "QHT"
name_of_type TariffTimeChange = codes "TARIFF_TIME_CHANGE"
name_of_type VolumeLimit = codes "VOLUME_LIMIT"
name_of_type TimeLimit = codes "TIME_LIMIT"
name_of_type ForcedReauthorisation = codes "FORCED_REAUTHORISATION"
name_of_type QosChange = codes "QOS_CHANGE"
name_of_type RatChange = codes "RAT_CHANGE"
name_of_type PlmnChange = codes "PLMN_CHANGE"
name_of_type UserLocationChange = codes "USER_LOCATION_CHANGE"
name_of_type UeTimezoneChange = codes "UE_TIMEZONE_CHANGE"
name_of_type SessionAmbrChange = codes "SESSION_AMBR_CHANGE"
name_of_type ServingNodeChange = codes "SERVING_NODE_CHANGE"
name_of_type ManagementIntervention = codes "MANAGEMENT_INTERVENTION"
name_of_type MaxNumberOfChangesInChargingConditions = codes "MAX_NUMBER_OF_CHANGES_IN_CHARGING_CONDITIONS"
name_of_type AbnormalRelease = codes "ABNORMAL_RELEASE"

-- all types
abbrev pub types : List TriggerType
types = Final ∷ QuotaExhausted ∷ QuotaThreshold ∷ ValidityTime ∷ QuotaHoldingTime ∷ TariffTimeChange ∷ VolumeLimit ∷ TimeLimit ∷ ForcedReauthorisation ∷ QosChange ∷ RatChange ∷ PlmnChange ∷ UserLocationChange ∷ UeTimezoneChange ∷ SessionAmbrChange ∷ ServingNodeChange ∷ ManagementIntervention ∷ MaxNumberOfChangesInChargingConditions ∷ AbnormalRelease ∷ []

-- the first of some types that has this name
abbrev pub first_named : List ℕ → List TriggerType → Option TriggerType
first_named text [] = None
first_named text (kind ∷ rest) = if bytes_eq text (name_of_type kind) then Some kind else first_named text rest

-- the type of this name
abbrev pub type_named : List ℕ → Option TriggerType
type_named text = first_named text types

-- ---- categories (TS 32.291, 6.1.6.3.7)

-- a category as written; the immediate one is `true`
abbrev pub name_of_category : Bool → List ℕ
name_of_category true = codes "IMMEDIATE_REPORT"
name_of_category false = codes "DEFERRED_REPORT"

-- whether a category of this name is immediate
abbrev pub is_immediate : List ℕ → Option Bool
is_immediate text = if bytes_eq text (codes "IMMEDIATE_REPORT") then Some true else if bytes_eq text (codes "DEFERRED_REPORT") then Some false else None

-- ---- result codes (TS 32.291, 6.1.6.3.14)

-- a result code as written
abbrev pub name_of_code : Code → List ℕ
name_of_code Success = codes "SUCCESS"
name_of_code Denied = codes "END_USER_SERVICE_DENIED"
name_of_code NotApplicable = codes "QUOTA_MANAGEMENT_NOT_APPLICABLE"
name_of_code LimitReached = codes "QUOTA_LIMIT_REACHED"
name_of_code RatingFailed = codes "RATING_FAILED"

-- the result code of a text; one that is unknown is read as END_USER_SERVICE_DENIED (this product's own)
abbrev pub code_named : List ℕ → Code
code_named text =
    if bytes_eq text (codes "SUCCESS") then Success
    else if bytes_eq text (codes "QUOTA_MANAGEMENT_NOT_APPLICABLE") then NotApplicable
    else if bytes_eq text (codes "QUOTA_LIMIT_REACHED") then LimitReached
    else if bytes_eq text (codes "RATING_FAILED") then RatingFailed
    else Denied

-- ---- actions of a final unit indication (TS 32.291, 6.1.6.3.4)

-- an action as written
abbrev pub name_of_action : Action → List ℕ
name_of_action action.Terminate = codes "TERMINATE"
name_of_action action.Redirect = codes "REDIRECT"
name_of_action action.RestrictAccess = codes "RESTRICT_ACCESS"

-- the action of this name
abbrev pub action_named : List ℕ → Option Action
action_named text =
    if bytes_eq text (codes "TERMINATE") then Some action.Terminate
    else if bytes_eq text (codes "REDIRECT") then Some action.Redirect
    else if bytes_eq text (codes "RESTRICT_ACCESS") then Some action.RestrictAccess
    else None

-- ---- failure handlings (TS 32.291, 6.1.6.3.12)

-- a failure handling as written
abbrev pub name_of_handling : Handling → List ℕ
name_of_handling handling.Terminate = codes "TERMINATE"
name_of_handling handling.Continue = codes "CONTINUE"
name_of_handling handling.RetryAndTerminate = codes "RETRY_AND_TERMINATE"

-- the failure handling of this name
abbrev pub handling_named : List ℕ → Option Handling
handling_named text =
    if bytes_eq text (codes "TERMINATE") then Some handling.Terminate
    else if bytes_eq text (codes "CONTINUE") then Some handling.Continue
    else if bytes_eq text (codes "RETRY_AND_TERMINATE") then Some handling.RetryAndTerminate
    else None

-- ---- whether session failover is supported (TS 32.291, 6.1.6.3.13)

-- as written; `true` is supported
abbrev pub name_of_failover : Bool → List ℕ
name_of_failover true = codes "FAILOVER_SUPPORTED"
name_of_failover false = codes "FAILOVER_NOT_SUPPORTED"

-- what a text of this name says
abbrev pub failover_named : List ℕ → Option Bool
failover_named text =
    if bytes_eq text (codes "FAILOVER_SUPPORTED") then Some true
    else if bytes_eq text (codes "FAILOVER_NOT_SUPPORTED") then Some false
    else None

-- ---- causes of problem details (TS 29.500, 5.2.7.2; TS 32.291, 6.1.7; some are this product's own)

-- a cause as written
abbrev pub name_of_cause : Cause → List ℕ
name_of_cause cause.InvalidMessage = codes "INVALID_MSG_FORMAT"
name_of_cause cause.MandatoryMissing = codes "MANDATORY_IE_MISSING"
name_of_cause cause.MandatoryIncorrect = codes "MANDATORY_IE_INCORRECT"
name_of_cause cause.OptionalIncorrect = codes "OPTIONAL_IE_INCORRECT"
name_of_cause cause.NotFound = codes "NOT_FOUND"
name_of_cause cause.UserUnknown = codes "USER_UNKNOWN"
name_of_cause cause.UnknownReference = codes "UNKNOWN_REFERENCE"
name_of_cause cause.SessionExists = codes "SESSION_EXISTS"
name_of_cause cause.SessionClosed = codes "SESSION_CLOSED"
name_of_cause cause.SequencePassed = codes "SEQUENCE_PASSED"
name_of_cause cause.NoMemory = codes "NO_MEMORY"
