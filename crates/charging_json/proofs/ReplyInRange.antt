-- What is read of a reply is in range.
use Rattle.std.proofs.Common.{◌≡◌, ◌≤◌, ◌==◌, ℕ, Bool, true, false, ◌&&◌, List, nat_le, Option, Some, None, IfSome, IfOk, option_map, option_and_then, refl, arith, codes, if◌then◌else◌}
use Rattle.std.proofs.lemmas.Bool.Decides.{nat_tests}
use Rattle.std.specs.Prelude.{⊤}
use Rattle.std.specs.List.{AllByRecursion}
use Rattle.std.specs.Str.Parse.{digits_value}
use Rattle.serde_json.specs.Data.{Data, Items, no_items, item}
use Rattle.serde_json.specs.Find.{as_str, as_array}
use Rattle.rows.specs.Number.{number_of, is_numeral}
use Rattle.units.specs.Words.{type_named}
use Rattle.units.specs.Ranges.{Is32, IsMoment, IsVolume, IfGiven}
use Rattle.units.specs.ReplyRanges.{FitsRule, FitsAmount, FitsInfo, FitsAnswer, FitsReply}
use Rattle.units.specs.declared.trigger.TriggerRule.{TriggerRule}
use Rattle.units.specs.declared.trigger.TriggerType.{TriggerType}
use Rattle.units.specs.declared.reply.Problem.{Problem}
use Rattle.charging_json.specs.declared.triggers.Limits.{Limits}
use Rattle.charging_json.specs.declared.information.Granted.{Granted}
use Rattle.charging_json.specs.declared.information.Bounds.{Bounds}
use Rattle.json_objects.specs.Fields.{given, is_object, number_32, volume, time, optional, needed, list_of, required, allowed}
use Rattle.charging_json.specs.Triggers.{first_given, category, limits_of, kind_of}
use Rattle.charging_json.specs.Rules.{with_rule, rule_of, kept, rules_in, rules_of}
use Rattle.charging_json.specs.Information.{code, amount, granted_of, bounds_of, last_units_of, info_of}
use Rattle.charging_json.specs.Location.{positive, reference_in, below_collection, path_of, reference_of}
use Rattle.charging_json.specs.Reply.{result_of, failover, answer_of, problem_of, reference_given, created_of, updated_of, refused_of, reply_of}
use Rattle.charging_json.proofs.InRange.{chain, step, mapped, if_in, number_32_in, volume_in, time_in, optional_in, joined_in, list_in, all_or_empty, then_in, required_in, allowed_in}

-- ---- trigger rules

abbrev FitsLimits : Limits → Type 0
FitsLimits l = IfGiven IsVolume l.volume × IfGiven Is32 l.seconds × IfGiven Is32 l.changes

first_in : (wide narrow : Option ℕ) → IfGiven IsVolume wide → IfGiven IsVolume narrow → IfGiven IsVolume (first_given wide narrow)
first_in None narrow hw hn = hn
first_in (Some n) narrow hw hn = hw

limits_in : (value : Data) → IfSome (limits_of value) FitsLimits
limits_in value =
    step FitsLimits (optional category (given (codes "triggerCategory") value)) _ (λ immediate.
    chain (IfGiven Is32) FitsLimits (optional number_32 (given (codes "timeLimit") value)) _ (optional_in Is32 number_32 number_32_in (given (codes "timeLimit") value)) (λ seconds hs.
    chain (IfGiven Is32) FitsLimits (optional number_32 (given (codes "maxNumberOfccc") value)) _ (optional_in Is32 number_32 number_32_in (given (codes "maxNumberOfccc") value)) (λ changes hc.
    chain (IfGiven IsVolume) FitsLimits (optional volume (given (codes "volumeLimit64") value)) _ (optional_in IsVolume volume volume_in (given (codes "volumeLimit64") value)) (λ wide hw.
    mapped (IfGiven IsVolume) FitsLimits (optional volume (given (codes "volumeLimit") value)) _ (optional_in IsVolume volume volume_in (given (codes "volumeLimit") value)) (λ narrow hn. (first_in wide narrow hw hn, hs, hc))))))

rule_in : (value : Data) → IfSome (rule_of value) (IfGiven FitsRule)
rule_in value = step (IfGiven FitsRule) (kind_of value) _ (λ kind. mapped FitsLimits (IfGiven FitsRule) (limits_of value) (λ limits. option_map (with_rule limits) (type_named kind)) (limits_in value) (λ limits h. by limits h (type_named kind)))
  where
    by : (limits : Limits) → FitsLimits limits → (o : Option TriggerType) → IfGiven FitsRule (option_map (with_rule limits) o)
    by limits h None = tt
    by limits h (Some kind) = record { octets = h.0; time = h.1; count = h.2 }

kept_in : (o : Option (Option TriggerRule)) (rest : Option (List TriggerRule)) → IfSome o (IfGiven FitsRule) → IfSome rest (AllByRecursion FitsRule) → IfSome (kept o rest) (AllByRecursion FitsRule)
kept_in None rest h k = tt
kept_in (Some None) rest h k = k
kept_in (Some (Some rule)) rest h k = joined_in FitsRule (Some rule) rest h k

each_rule : (items : Items) → IfSome (rules_in items) (AllByRecursion FitsRule)
each_rule no_items = tt
each_rule (item value rest) = kept_in (rule_of value) (rules_in rest) (rule_in value) (each_rule rest)

rules_of_fit : (value : Data) → IfSome (rules_of value) (AllByRecursion FitsRule)
rules_of_fit value = step (AllByRecursion FitsRule) (as_array value) rules_in each_rule

-- ---- multiple unit information

abbrev FitsGranted : Granted → Type 0
FitsGranted g = IfGiven FitsAmount g.grant × IfGiven IsMoment g.switch

amount_in : (octets seconds : Option ℕ) → IfGiven IsVolume octets → IfGiven Is32 seconds → IfGiven FitsAmount (amount octets seconds)
amount_in (Some octets) seconds ho hs = ho
amount_in None (Some seconds) ho hs = hs
amount_in None None ho hs = tt

granted_in : (found : Option Data) → IfSome (granted_of found) FitsGranted
granted_in None = (tt, tt)
granted_in (Some value) = if_in FitsGranted (is_object value) _
    (chain (IfGiven IsMoment) FitsGranted (optional time (given (codes "tariffTimeChange") value)) _ (optional_in IsMoment time time_in (given (codes "tariffTimeChange") value)) (λ switch ht.
    chain (IfGiven Is32) FitsGranted (optional number_32 (given (codes "time") value)) _ (optional_in Is32 number_32 number_32_in (given (codes "time") value)) (λ seconds hs.
    mapped (IfGiven IsVolume) FitsGranted (optional volume (given (codes "totalVolume") value)) _ (optional_in IsVolume volume volume_in (given (codes "totalVolume") value)) (λ octets ho. (amount_in octets seconds ho hs, ht)))))

abbrev FitsBounds : Bounds → Type 0
FitsBounds b = IfGiven Is32 b.validity × IfGiven Is32 b.holding × IfGiven IsVolume b.volume_threshold × IfGiven Is32 b.time_threshold

bounds_in : (value : Data) → IfSome (bounds_of value) FitsBounds
bounds_in value =
    chain (IfGiven Is32) FitsBounds (optional number_32 (given (codes "validityTime") value)) _ (optional_in Is32 number_32 number_32_in (given (codes "validityTime") value)) (λ validity hv.
    chain (IfGiven Is32) FitsBounds (optional number_32 (given (codes "quotaHoldingTime") value)) _ (optional_in Is32 number_32 number_32_in (given (codes "quotaHoldingTime") value)) (λ holding hh.
    chain (IfGiven IsVolume) FitsBounds (optional volume (given (codes "volumeQuotaThreshold") value)) _ (optional_in IsVolume volume volume_in (given (codes "volumeQuotaThreshold") value)) (λ octets ho.
    mapped (IfGiven Is32) FitsBounds (optional number_32 (given (codes "timeQuotaThreshold") value)) _ (optional_in Is32 number_32 number_32_in (given (codes "timeQuotaThreshold") value)) (λ seconds hs. (hv, hh, ho, hs)))))

info_in : (value : Data) → IfSome (info_of value) FitsInfo
info_in value =
    chain Is32 FitsInfo (needed number_32 (given (codes "ratingGroup") value)) _ (step Is32 (given (codes "ratingGroup") value) number_32 number_32_in) (λ group hg.
    step FitsInfo (needed code (given (codes "resultCode") value)) _ (λ result.
    chain FitsGranted FitsInfo (granted_of (given (codes "grantedUnit") value)) _ (granted_in (given (codes "grantedUnit") value)) (λ granted hr.
    chain FitsBounds FitsInfo (bounds_of value) _ (bounds_in value) (λ bounds hb.
    step FitsInfo (last_units_of (given (codes "finalUnitIndication") value)) _ (λ last_units.
    mapped (IfGiven (AllByRecursion FitsRule)) FitsInfo (optional rules_of (given (codes "triggers") value)) _
    (optional_in (AllByRecursion FitsRule) rules_of rules_of_fit (given (codes "triggers") value)) (λ triggers ht. record {
      number = hg;
      granted = hr.0;
      switched = hr.1;
      valid = hb.0;
      held = hb.1;
      octets = hb.2;
      time = hb.3;
      rules = all_or_empty FitsRule triggers ht;
    }))))))

-- ---- answers

any : {A : Type 0} (o : Option A) → IfSome o (λ x. ⊤)
any None = tt
any (Some x) = tt

answer_in : (value : Data) → IfOk (answer_of value) FitsAnswer
answer_in value =
    then_in IsMoment FitsAnswer (required (codes "invocationTimeStamp") (option_map time (given (codes "invocationTimeStamp") value))) _ (required_in IsMoment (codes "invocationTimeStamp") time time_in (given (codes "invocationTimeStamp") value)) (λ stamp h1.
    then_in Is32 FitsAnswer (required (codes "invocationSequenceNumber") (option_map number_32 (given (codes "invocationSequenceNumber") value))) _ (required_in Is32 (codes "invocationSequenceNumber") number_32 number_32_in (given (codes "invocationSequenceNumber") value)) (λ number h2.
    then_in (IfGiven (λ x. ⊤)) FitsAnswer (allowed (codes "invocationResult") (option_map result_of (given (codes "invocationResult") value))) _ (allowed_in (λ x. ⊤) (codes "invocationResult") result_of (λ v. any (result_of v)) (given (codes "invocationResult") value)) (λ handling h3.
    then_in (IfGiven (λ x. ⊤)) FitsAnswer (allowed (codes "sessionFailover") (option_map failover (given (codes "sessionFailover") value))) _ (allowed_in (λ x. ⊤) (codes "sessionFailover") failover (λ v. any (failover v)) (given (codes "sessionFailover") value)) (λ supported h4.
    then_in (IfGiven (AllByRecursion FitsRule)) FitsAnswer (allowed (codes "triggers") (option_map rules_of (given (codes "triggers") value))) _ (allowed_in (AllByRecursion FitsRule) (codes "triggers") rules_of rules_of_fit (given (codes "triggers") value)) (λ triggers h5.
    then_in (IfGiven (AllByRecursion FitsInfo)) FitsAnswer (allowed (codes "multipleUnitInformation") (option_map (list_of info_of) (given (codes "multipleUnitInformation") value))) _ (allowed_in (AllByRecursion FitsInfo) (codes "multipleUnitInformation") (list_of info_of) (list_in FitsInfo info_of info_in) (given (codes "multipleUnitInformation") value)) (λ units h6.
    record { stamped = h1; numbered = h2; rules = all_or_empty FitsRule triggers h5; entries = all_or_empty FitsInfo units h6 }))))))

-- ---- replies

abbrev IsReference : ℕ → Type 0
IsReference n = (1 ≤ n) × Is32 n

reference_fits : (text : List ℕ) → IfSome (reference_in text) IsReference
reference_fits text = chain Is32 IsReference (number_of 4294967295 text) positive small above
  where
    small : IfSome (number_of 4294967295 text) Is32
    small = by (is_numeral text) (nat_le (digits_value 10 text) 4294967295) refl
      where
        by : (a b : Bool) → nat_le (digits_value 10 text) 4294967295 ≡ b → IfSome (if a && b then Some (digits_value 10 text) else None) Is32
        by true true e = let l : digits_value 10 text ≤ 4294967295 = grind (arith, nat_tests, e) in l
        by true false e = tt
        by false b e = tt

    above : (n : ℕ) → Is32 n → IfSome (positive n) IsReference
    above n h = by (nat_le 1 n) refl
      where
        by : (b : Bool) → nat_le 1 n ≡ b → IfSome (if b then Some n else None) IsReference
        by true e = let l : 1 ≤ n = grind (arith, nat_tests, e) in (l, h)
        by false e = tt

location_in : (location : List ℕ) → IfSome (reference_of location) IsReference
location_in location = step IsReference (option_and_then below_collection (path_of location)) reference_in reference_fits

given_in : (location : Option (List ℕ)) → IfOk (reference_given location) IsReference
given_in None = tt
given_in (Some location) = by (reference_of location) (location_in location)
  where
    by : (o : Option ℕ) → IfSome o IsReference → IfOk (required (codes "Location") (Some o)) IsReference
    by None h = tt
    by (Some n) h = h

created_in : (location : Option (List ℕ)) (value : Data) → IfOk (created_of location value) FitsReply
created_in location value = then_in FitsAnswer FitsReply (answer_of value) _ (answer_in value) (λ answer ha. then_in IsReference FitsReply (reference_given location) _ (given_in location) (λ reference hr. (hr.0, hr.1, ha)))

updated_in : (value : Data) → IfOk (updated_of value) FitsReply
updated_in value = then_in FitsAnswer FitsReply (answer_of value) _ (answer_in value) (λ answer ha. ha)

-- problem details, of a status that stands for no success
problem_in : (status : ℕ) (value : Data) → IfOk (problem_of status value) (λ problem. problem.status ≡ status)
problem_in status value =
    then_in (λ x. ⊤) (λ problem. problem.status ≡ status) (required (codes "cause") (option_map as_str (given (codes "cause") value))) _ (required_in (λ x. ⊤) (codes "cause") as_str (λ v. any (as_str v)) (given (codes "cause") value)) (λ cause h1.
    then_in (IfGiven (λ x. ⊤)) (λ problem. problem.status ≡ status) (allowed (codes "detail") (option_map as_str (given (codes "detail") value))) _ (allowed_in (λ x. ⊤) (codes "detail") as_str (λ v. any (as_str v)) (given (codes "detail") value)) (λ detail h2. refl))

refused_in : (status : ℕ) (value : Data) → (status == 201) ≡ false → (status == 200) ≡ false → (status == 204) ≡ false → IfOk (refused_of status value) FitsReply
refused_in status value e1 e2 e3 = then_in (λ (problem : Problem). problem.status ≡ status) FitsReply (problem_of status value) _ (problem_in status value) (λ problem same. record { not_created = rw same e1; not_updated = rw same e2; not_released = rw same e3 })

pub value_in : (status : ℕ) (location : Option (List ℕ)) (value : Data) → (status == 204) ≡ false → IfOk (reply_of status location value) FitsReply
value_in status location value e3 = by (status == 201) (status == 200) refl refl
  where
    by : (a b : Bool) → (status == 201) ≡ a → (status == 200) ≡ b → IfOk (if a then created_of location value else if b then updated_of value else refused_of status value) FitsReply
    by true b e1 e2 = created_in location value
    by false true e1 e2 = updated_in value
    by false false e1 e2 = refused_in status value e1 e2 e3
