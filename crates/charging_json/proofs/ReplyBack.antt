-- A reply in range reads back from what is written.
use Rattle.std.proofs.Common.{◌≡◌, ◌≤◌, ◌^◌, ℕ, Bool, true, false, List, [], ◌∷◌, map, nat_le, Option, Some, None, Ok, option_map, refl, ◌∙◌, ap, arith, codes}
use Rattle.std.proofs.lemmas.Bool.Decides.{nat_tests}
use Rattle.std.specs.List.{AllByRecursion}
use Rattle.serde_json.specs.Data.{Data, string}
use Rattle.serde_json.specs.Find.{as_str}
use Rattle.serde_json.specs.View.{items_of}
use Rattle.units.specs.declared.answer.Answer.{Answer}
use Rattle.units.specs.declared.answer.Amount.{Amount}
use Rattle.units.specs.declared.answer.Amount.TheVariants.{Volume, Seconds}
use Rattle.units.specs.declared.answer.Action.{Action}
use Rattle.units.specs.declared.answer.Action.TheVariants as action
use Rattle.units.specs.declared.answer.Code.{Code}
use Rattle.units.specs.declared.answer.Code.TheVariants.{Success, Denied, NotApplicable, LimitReached, RatingFailed}
use Rattle.units.specs.declared.answer.Handling.{Handling}
use Rattle.units.specs.declared.answer.Handling.TheVariants as handling
use Rattle.units.specs.declared.answer.UnitInfo.{UnitInfo}
use Rattle.units.specs.declared.trigger.TriggerRule.{TriggerRule}
use Rattle.units.specs.declared.trigger.TriggerType.{TriggerType}
use Rattle.units.specs.declared.trigger.TriggerType.TheVariants.{Final, QuotaExhausted, QuotaThreshold, ValidityTime, QuotaHoldingTime, TariffTimeChange, VolumeLimit, TimeLimit, ForcedReauthorisation, QosChange, RatChange, PlmnChange, UserLocationChange, UeTimezoneChange, SessionAmbrChange, ServingNodeChange, ManagementIntervention, MaxNumberOfChangesInChargingConditions, AbnormalRelease}
use Rattle.units.specs.declared.reply.Problem.{Problem}
use Rattle.json_objects.specs.Fields.{unless_null, given, is_object, number_32, volume, time, optional, list_of, or_empty, allowed}
use Rattle.units.specs.Names.{is_kind}
use Rattle.units.specs.Words.{name_of_type, type_named, name_of_category, is_immediate, name_of_code, code_named}
use Rattle.json_objects.specs.ReadBack.{found, ReadBackLaws}
use Rattle.charging_json.specs.Triggers.{first_given}
use Rattle.charging_json.specs.Rules.{rule_of, rules_in, rules_of}
use Rattle.charging_json.specs.Information.{last_units_of, amount, with_granted, granted_of, with_bounds, bounds_of, info_of}
use Rattle.charging_json.specs.Reply.{result_of, failover, flat, with_answer, answer_of, with_problem, problem_of}
use Rattle.json_objects.specs.Objects.{number_data, time_data, object_of, listed}
use Rattle.charging_json.specs.ReplyWritten.{rule_data, rule_fields, octets_of, seconds_of, granted_fields, granted_data, last_units_data, info_data, info_fields, result_data, failover_data, answer_data, answer_fields, problem_data, problem_fields}
use Rattle.units.specs.Ranges.{Is32, IsMoment, IsVolume, IfGiven}
use Rattle.units.specs.ReplyRanges.{FitsRule, FitsAmount, FitsInfo, FitsAnswer}
use Rattle.charging_json.proofs.LookUp.{not_null, unless_empty, empty_again, list_back, optional_is, given_back, present, allowed_is}
use Rattle.charging_json.proofs.RequestBack.{TimesRead, number_back}

-- a number that may be absent
optional_back : (reads : Data → Option ℕ) (P : ℕ → Type 0) (found : Option Data) (o : Option ℕ) → ((n : ℕ) → P n → reads (number_data n) ≡ Some n) → IfGiven P o → found ≡ unless_null (option_map number_data o) → optional reads found ≡ Some o
optional_back reads P found o back fits is = optional_is reads found o (ap (option_map reads) (is ∙ present number_data o (λ n. refl)) ∙ given_back reads number_data P o back fits)

-- ---- trigger rules

type_is_kind : (kind : TriggerType) → is_kind (name_of_type kind) ≡ true
type_is_kind Final = refl
type_is_kind QuotaExhausted = refl
type_is_kind QuotaThreshold = refl
type_is_kind ValidityTime = refl
type_is_kind QuotaHoldingTime = refl
type_is_kind TariffTimeChange = refl
type_is_kind VolumeLimit = refl
type_is_kind TimeLimit = refl
type_is_kind ForcedReauthorisation = refl
type_is_kind QosChange = refl
type_is_kind RatChange = refl
type_is_kind PlmnChange = refl
type_is_kind UserLocationChange = refl
type_is_kind UeTimezoneChange = refl
type_is_kind SessionAmbrChange = refl
type_is_kind ServingNodeChange = refl
type_is_kind ManagementIntervention = refl
type_is_kind MaxNumberOfChangesInChargingConditions = refl
type_is_kind AbnormalRelease = refl

type_back : (kind : TriggerType) → type_named (name_of_type kind) ≡ Some kind
type_back Final = refl
type_back QuotaExhausted = refl
type_back QuotaThreshold = refl
type_back ValidityTime = refl
type_back QuotaHoldingTime = refl
type_back TariffTimeChange = refl
type_back VolumeLimit = refl
type_back TimeLimit = refl
type_back ForcedReauthorisation = refl
type_back QosChange = refl
type_back RatChange = refl
type_back PlmnChange = refl
type_back UserLocationChange = refl
type_back UeTimezoneChange = refl
type_back SessionAmbrChange = refl
type_back ServingNodeChange = refl
type_back ManagementIntervention = refl
type_back MaxNumberOfChangesInChargingConditions = refl
type_back AbnormalRelease = refl

category_back : (immediate : Bool) → is_immediate (name_of_category immediate) ≡ Some immediate
category_back true = refl
category_back false = refl

first_of_none : (o : Option ℕ) → first_given o None ≡ o
first_of_none None = refl
first_of_none (Some n) = refl

rule_from : (value : Data) (kind : TriggerType) (immediate : Bool) (octets seconds changes : Option ℕ)
    → given (codes "triggerType") value ≡ Some (string (name_of_type kind)) → given (codes "triggerCategory") value ≡ Some (string (name_of_category immediate))
    → optional number_32 (given (codes "timeLimit") value) ≡ Some seconds → optional number_32 (given (codes "maxNumberOfccc") value) ≡ Some changes
    → optional volume (given (codes "volumeLimit64") value) ≡ Some octets → given (codes "volumeLimit") value ≡ None
    → rule_of value ≡ Some (Some (record { trigger = kind; immediate = immediate; volume = octets; seconds = seconds; changes = changes }))
rule_from value kind immediate octets seconds changes g1 g2 e3 e4 e5 g6 =
    let k = type_is_kind kind in
    let t = type_back kind in
    let c = category_back immediate in
    rw (g1, k, g2, c, e3, e4, e5, g6, t, first_of_none octets) refl

pub rule_back : ReadBackLaws → (rule : TriggerRule) → FitsRule rule → rule_of (rule_data rule) ≡ Some (Some rule)
rule_back laws rule fits =
    let value = rule_data rule in
    let fields = rule_fields rule in
    rule_from value rule.trigger rule.immediate rule.volume rule.seconds rule.changes
    (laws.look_up (codes "triggerType") fields) (laws.look_up (codes "triggerCategory") fields)
    (optional_back number_32 Is32 (given (codes "timeLimit") value) rule.seconds (number_back 4294967295) fits.time (laws.look_up (codes "timeLimit") fields))
    (optional_back number_32 Is32 (given (codes "maxNumberOfccc") value) rule.changes (number_back 4294967295) fits.count (laws.look_up (codes "maxNumberOfccc") fields))
    (optional_back volume IsVolume (given (codes "volumeLimit64") value) rule.volume (number_back (2 ^ 60)) fits.octets (laws.look_up (codes "volumeLimit64") fields))
    (laws.look_up (codes "volumeLimit") fields)

rules_back : ReadBackLaws → (rules : List TriggerRule) → AllByRecursion FitsRule rules → rules_in (items_of (map rule_data rules)) ≡ Some rules
rules_back laws [] all = refl
rules_back laws (rule ∷ rules) all = rw (rule_back laws rule all.0, rules_back laws rules all.1) refl

pub rule_list_back : ReadBackLaws → (rules : List TriggerRule) → AllByRecursion FitsRule rules → option_map rules_of (listed (map rule_data rules)) ≡ option_map Some (unless_empty rules)
rule_list_back laws [] all = refl
rule_list_back laws (rule ∷ rules) all = ap Some (rules_back laws (rule ∷ rules) all)

-- ---- entries

code_back : (c : Code) → code_named (name_of_code c) ≡ c
code_back Success = refl
code_back Denied = refl
code_back NotApplicable = refl
code_back LimitReached = refl
code_back RatingFailed = refl

last_units_back : (o : Option Action) → last_units_of (unless_null (option_map last_units_data o)) ≡ Some o
last_units_back None = refl
last_units_back (Some action.Terminate) = refl
last_units_back (Some action.Redirect) = refl
last_units_back (Some action.RestrictAccess) = refl

amount_back : (grant : Option Amount) → amount (octets_of grant) (seconds_of grant) ≡ grant
amount_back None = refl
amount_back (Some (Volume octets)) = refl
amount_back (Some (Seconds seconds)) = refl

octets_fit : (grant : Option Amount) → IfGiven FitsAmount grant → IfGiven IsVolume (octets_of grant)
octets_fit None fits = tt
octets_fit (Some (Volume octets)) fits = fits
octets_fit (Some (Seconds seconds)) fits = tt

seconds_fit : (grant : Option Amount) → IfGiven FitsAmount grant → IfGiven Is32 (seconds_of grant)
seconds_fit None fits = tt
seconds_fit (Some (Volume octets)) fits = tt
seconds_fit (Some (Seconds seconds)) fits = fits

granted_from : (value : Data) (switch seconds octets : Option ℕ) → is_object value ≡ true
    → optional time (given (codes "tariffTimeChange") value) ≡ Some switch → optional number_32 (given (codes "time") value) ≡ Some seconds → optional volume (given (codes "totalVolume") value) ≡ Some octets
    → granted_of (Some value) ≡ Some (with_granted switch seconds octets)
granted_from value switch seconds octets o e1 e2 e3 = rw (o, e1, e2, e3) refl

granted_object_back : ReadBackLaws → TimesRead → (grant : Option Amount) (switch : Option ℕ) → IfGiven FitsAmount grant → IfGiven IsMoment switch → granted_of (Some (object_of (granted_fields grant switch))) ≡ Some (record { grant = grant; switch = switch })
granted_object_back laws times grant switch fits moments =
    let fields = granted_fields grant switch in
    let value = object_of fields in
    granted_from value switch (seconds_of grant) (octets_of grant) refl
    (optional_is time (given (codes "tariffTimeChange") value) switch (ap (option_map time) (laws.look_up (codes "tariffTimeChange") fields ∙ present time_data switch (λ m. refl)) ∙ given_back time time_data IsMoment switch times moments))
    (optional_back number_32 Is32 (given (codes "time") value) (seconds_of grant) (number_back 4294967295) (seconds_fit grant fits) (laws.look_up (codes "time") fields))
    (optional_back volume IsVolume (given (codes "totalVolume") value) (octets_of grant) (number_back (2 ^ 60)) (octets_fit grant fits) (laws.look_up (codes "totalVolume") fields))
    ∙ ap (λ g. Some (record { grant = g; switch = switch })) (amount_back grant)

granted_back : ReadBackLaws → TimesRead → (grant : Option Amount) (switch : Option ℕ) → IfGiven FitsAmount grant → IfGiven IsMoment switch → granted_of (unless_null (granted_data grant switch)) ≡ Some (record { grant = grant; switch = switch })
granted_back laws times None None fits moments = refl
granted_back laws times None (Some switch) fits moments = granted_object_back laws times None (Some switch) fits moments
granted_back laws times (Some grant) switch fits moments = granted_object_back laws times (Some grant) switch fits moments

bounds_from : (value : Data) (validity holding octets seconds : Option ℕ)
    → optional number_32 (given (codes "validityTime") value) ≡ Some validity → optional number_32 (given (codes "quotaHoldingTime") value) ≡ Some holding
    → optional volume (given (codes "volumeQuotaThreshold") value) ≡ Some octets → optional number_32 (given (codes "timeQuotaThreshold") value) ≡ Some seconds
    → bounds_of value ≡ Some (with_bounds validity holding octets seconds)
bounds_from value validity holding octets seconds e1 e2 e3 e4 = rw (e1, e2, e3, e4) refl

info_from : (value : Data) (group : ℕ) (c : Code) (grant : Option Amount) (switch validity holding octets seconds : Option ℕ) (last_units : Option Action) (rules : List TriggerRule)
    → given (codes "ratingGroup") value ≡ Some (number_data group) → group ≤ 4294967295 → given (codes "resultCode") value ≡ Some (string (name_of_code c))
    → granted_of (given (codes "grantedUnit") value) ≡ Some (record { grant = grant; switch = switch }) → bounds_of value ≡ Some (with_bounds validity holding octets seconds)
    → last_units_of (given (codes "finalUnitIndication") value) ≡ Some last_units → optional rules_of (given (codes "triggers") value) ≡ Some (unless_empty rules)
    → info_of value ≡ Some (record { group = group; code = c; grant = grant; switch = switch; validity = validity; holding = holding; volume_threshold = octets; time_threshold = seconds; last_units = last_units; triggers = rules })
info_from value group c grant switch validity holding octets seconds last_units rules g1 l g2 e3 e4 e5 e6 =
    let test : nat_le group 4294967295 ≡ true = grind (arith, nat_tests, l) in
    rw (g1, test, g2, code_back c, e3, e4, e5, e6, empty_again rules) refl

pub info_back : ReadBackLaws → TimesRead → (info : UnitInfo) → FitsInfo info → info_of (info_data info) ≡ Some info
info_back laws times info fits =
    let fields = info_fields info in
    let value = info_data info in
    info_from value info.group info.code info.grant info.switch info.validity info.holding info.volume_threshold info.time_threshold info.last_units info.triggers
    (laws.look_up (codes "ratingGroup") fields) fits.number (laws.look_up (codes "resultCode") fields)
    (ap granted_of (laws.look_up (codes "grantedUnit") fields) ∙ granted_back laws times info.grant info.switch fits.granted fits.switched)
    (bounds_from value info.validity info.holding info.volume_threshold info.time_threshold
    (optional_back number_32 Is32 (given (codes "validityTime") value) info.validity (number_back 4294967295) fits.valid (laws.look_up (codes "validityTime") fields))
    (optional_back number_32 Is32 (given (codes "quotaHoldingTime") value) info.holding (number_back 4294967295) fits.held (laws.look_up (codes "quotaHoldingTime") fields))
    (optional_back volume IsVolume (given (codes "volumeQuotaThreshold") value) info.volume_threshold (number_back (2 ^ 60)) fits.octets (laws.look_up (codes "volumeQuotaThreshold") fields))
    (optional_back number_32 Is32 (given (codes "timeQuotaThreshold") value) info.time_threshold (number_back 4294967295) fits.time (laws.look_up (codes "timeQuotaThreshold") fields)))
    (ap last_units_of (laws.look_up (codes "finalUnitIndication") fields) ∙ last_units_back info.last_units)
    (optional_is rules_of (given (codes "triggers") value) (unless_empty info.triggers)
    (ap (option_map rules_of) (laws.look_up (codes "triggers") fields ∙ not_null (map rule_data info.triggers)) ∙ rule_list_back laws info.triggers fits.rules))

-- ---- answers

handling_back : (o : Option Handling) → option_map result_of (unless_null (option_map result_data o)) ≡ option_map Some (option_map Some o)
handling_back None = refl
handling_back (Some handling.Terminate) = refl
handling_back (Some handling.Continue) = refl
handling_back (Some handling.RetryAndTerminate) = refl

flat_back : (o : Option Handling) → flat (option_map Some o) ≡ o
flat_back None = refl
flat_back (Some h) = refl

failover_back : (o : Option Bool) → option_map failover (unless_null (option_map failover_data o)) ≡ option_map Some o
failover_back None = refl
failover_back (Some true) = refl
failover_back (Some false) = refl

answer_from : (value : Data) (stamp number : ℕ) (h : Option (Option Handling)) (f : Option Bool) (rules : Option (List TriggerRule)) (infos : Option (List UnitInfo))
    → option_map time (given (codes "invocationTimeStamp") value) ≡ Some (Some stamp)
    → option_map number_32 (given (codes "invocationSequenceNumber") value) ≡ Some (Some number)
    → allowed (codes "invocationResult") (option_map result_of (given (codes "invocationResult") value)) ≡ Ok h
    → allowed (codes "sessionFailover") (option_map failover (given (codes "sessionFailover") value)) ≡ Ok f
    → allowed (codes "triggers") (option_map rules_of (given (codes "triggers") value)) ≡ Ok rules
    → allowed (codes "multipleUnitInformation") (option_map (list_of info_of) (given (codes "multipleUnitInformation") value)) ≡ Ok infos
    → answer_of value ≡ Ok (with_answer stamp number h f rules infos)
answer_from value stamp number h f rules infos e1 e2 e3 e4 e5 e6 = rw (e1, e2, e3, e4, e5, e6) refl

pub answer_back : ReadBackLaws → TimesRead → (answer : Answer) → FitsAnswer answer → answer_of (answer_data answer) ≡ Ok answer
answer_back laws times answer fits =
    let fields = answer_fields answer in
    let value = answer_data answer in
    answer_from value answer.stamp answer.number (option_map Some answer.handling) answer.failover (unless_empty answer.triggers) (unless_empty answer.units)
    (ap (option_map time) (laws.look_up (codes "invocationTimeStamp") fields) ∙ ap Some (times answer.stamp fits.stamped))
    (ap (option_map number_32) (laws.look_up (codes "invocationSequenceNumber") fields) ∙ ap Some (number_back 4294967295 answer.number fits.numbered))
    (allowed_is (codes "invocationResult") (option_map result_of (given (codes "invocationResult") value)) (option_map Some answer.handling)
    (ap (option_map result_of) (laws.look_up (codes "invocationResult") fields) ∙ handling_back answer.handling))
    (allowed_is (codes "sessionFailover") (option_map failover (given (codes "sessionFailover") value)) answer.failover
    (ap (option_map failover) (laws.look_up (codes "sessionFailover") fields) ∙ failover_back answer.failover))
    (allowed_is (codes "triggers") (option_map rules_of (given (codes "triggers") value)) (unless_empty answer.triggers)
    (ap (option_map rules_of) (laws.look_up (codes "triggers") fields ∙ not_null (map rule_data answer.triggers)) ∙ rule_list_back laws answer.triggers fits.rules))
    (allowed_is (codes "multipleUnitInformation") (option_map (list_of info_of) (given (codes "multipleUnitInformation") value)) (unless_empty answer.units)
    (ap (option_map (list_of info_of)) (laws.look_up (codes "multipleUnitInformation") fields ∙ not_null (map info_data answer.units)) ∙ list_back info_of info_data FitsInfo answer.units (info_back laws times) fits.entries))
    ∙ ap (λ h. Ok (record answer { handling = h; triggers = or_empty (unless_empty answer.triggers); units = or_empty (unless_empty answer.units) })) (flat_back answer.handling)
    ∙ ap (λ rules. Ok (record answer { triggers = rules; units = or_empty (unless_empty answer.units) })) (empty_again answer.triggers)
    ∙ ap (λ infos. Ok (record answer { units = infos })) (empty_again answer.units)

-- ---- problems

problem_from : (status : ℕ) (value : Data) (cause : List ℕ) (detail : Option (List ℕ))
    → given (codes "cause") value ≡ Some (string cause) → allowed (codes "detail") (option_map as_str (given (codes "detail") value)) ≡ Ok detail
    → problem_of status value ≡ Ok (with_problem status cause detail)
problem_from status value cause detail g e = rw (g, e) refl

pub problem_back : ReadBackLaws → (problem : Problem) → problem_of problem.status (problem_data problem) ≡ Ok problem
problem_back laws problem =
    let fields = problem_fields problem in
    problem_from problem.status (problem_data problem) problem.cause problem.detail (laws.look_up (codes "cause") fields)
    (allowed_is (codes "detail") (option_map as_str (given (codes "detail") (problem_data problem))) problem.detail
    (ap (option_map as_str) (laws.look_up (codes "detail") fields ∙ present string problem.detail (λ t. refl)) ∙ given_back as_str string (λ t. Unit {0}) problem.detail (λ t h. refl) (any problem.detail)))
  where
    any : (o : Option (List ℕ)) → IfGiven (λ t. Unit {0}) o
    any None = tt
    any (Some t) = tt
