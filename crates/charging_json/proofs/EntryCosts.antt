-- What is written of the entries of a request is bounded by what they were read from.
use Rattle.std.proofs.Common.{◌≤◌, ◌+◌, ◌*◌, ◌^◌, ℕ, true, List, [], ◌∷◌, map, length, Option, Some, None, IfSome, option_map, option_and_then, unwrap_or, refl, arith, codes}
use Rattle.std.proofs.lemmas.Fmt.{length-decimal-le}
use Rattle.serde_json.specs.Data.{Data, string}
use Rattle.serde_json.specs.Written.{compact_text}
use Rattle.json.specs.Print.{escape_byte}
use Rattle.units.specs.Names.{is_kind}
use Rattle.units.specs.Words.{name_of_category}
use Rattle.units.specs.Ranges.{Is32, IsVolume, IsKind, FitsContainer, FitsAsk, FitsUsage}
use Rattle.units.specs.declared.request.Used.{Used}
use Rattle.json_objects.specs.Fields.{given, is_object, number_to, number_32, volume, text_that, optional, needed, list_of, or_empty}
use Rattle.json_objects.specs.Objects.{listed, number_data, time_data}
use Rattle.json_objects.specs.Sizes.{size}
use Rattle.charging_json.specs.declared.container.Counts.{Counts}
use Rattle.charging_json.specs.Triggers.{kind_of, limits_of, sound_kind}
use Rattle.charging_json.specs.Usage.{directions, volumes_of, times_of, counts_of, used_of, with_used, ask_of, with_ask, short_list_of, entry_of, with_usage}
use Rattle.charging_json.specs.RequestWritten.{trigger_data, trigger_fields, total_of, span_data, span_fields, used_data, used_fields, ask_data, ask_fields, usage_data, usage_fields}
use Rattle.charging_json.proofs.InRange.{chain, step, mapped, if_in}
use Rattle.charging_json.proofs.ReadSizes.{field_size, part, fields_fit, positive}
use Rattle.charging_json.proofs.WrittenSizes.{field_text, object_bound, field_bound, string_bound, time_bound, number_bound, volume_bound}
use Rattle.charging_json.proofs.ReadCosts.{Written, Costs, number_costs, volume_costs, text_size, then_needed, then_optional, last_optional, list_costs, short_list_costs, last_list}

-- ---- triggers

trigger_bound : (kind : List ℕ) → length (compact_text (trigger_data kind)) ≤ 6 * length kind + 56
unfolding escape_byte
trigger_bound kind =
    let whole = object_bound (trigger_fields kind) in
    let category = field_bound (codes "triggerCategory") (string (name_of_category true)) 18 (record { same = refl })
    (omega arith) in
    let type = field_bound (codes "triggerType") (string kind) (6 * length kind + 2) (record { same = refl })
    (string_bound kind) in
    omega (arith, whole, category, type)

kind_size : (value : Data) → IfSome (kind_of value) (λ kind. length kind + 18 ≤ size value)
kind_size value = by (given (codes "triggerType") value) (fields_fit (codes "triggerType" ∷ []) value refl)
  where
    within : (v : Data) (o : Option (List ℕ)) → 16 + size v ≤ size value
        → IfSome o (λ kind. length kind + 2 ≤ size v) → IfSome o (λ kind. length kind + 18 ≤ size value)
    within v None h k = tt
    within v (Some kind) h k = omega (arith, h, k)

    by : (found : Option Data) → field_size (codes "triggerType") found + 0 + 1 ≤ size value
        → IfSome (needed (text_that is_kind) found) (λ kind. length kind + 18 ≤ size value)
    by None h = tt
    by (Some v) h = within v (text_that is_kind v) (omega (arith, h)) (text_size is_kind v)

pub kind_costs : Costs sound_kind trigger_data IsKind
kind_costs value =
    chain (λ kind. length kind + 18 ≤ size value) (Written trigger_data IsKind (size value)) (kind_of value) _
    (kind_size value) (λ kind h. by kind h (limits_of value))
  where
    by : {L : Type 0} (kind : List ℕ) → length kind + 18 ≤ size value → (o : Option L)
        → IfSome (option_map (λ limits. kind) o) (Written trigger_data IsKind (size value))
    by kind h None = tt
    by kind h (Some limits) = λ is. let b = trigger_bound kind in omega (arith, b, h)

-- ---- containers

-- how many bytes a field has at least where it has a value
abbrev least : {T : Type 0} → List ℕ → Option T → ℕ
least label None = 0
least label (Some x) = length label + 5

least_of : {T : Type 0} (label : List ℕ) (v : Data) (o : Option T)
    → IfSome (option_map Some o) (λ o. least label o ≤ length label + 4 + size v)
least_of label v None = tt
least_of label v (Some x) = let p = positive v in omega (arith, p)

optional_least : {T : Type 0} (label : List ℕ) (reads : Data → Option T) (found : Option Data)
    → IfSome (optional reads found) (λ o. least label o ≤ field_size label found)
optional_least label reads None = omega arith
optional_least label reads (Some v) = least_of label v (reads v)

then_least : {T B : Type 0} (label : List ℕ) (reads : Data → Option T) (value : Data) (Q : B → Type 0)
    (f : Option T → Option B) → ((o : Option T) → least label o ≤ part label value → IfSome (f o) Q)
    → IfSome (option_and_then f (optional reads (given label value))) Q
then_least label reads value Q f =
    chain (λ o. least label o ≤ part label value) Q (optional reads (given label value)) f
    (optional_least label reads (given label value))

needed_least : {T : Type 0} (label : List ℕ) (reads : Data → Option T) (found : Option Data)
    → IfSome (needed reads found) (λ x. length label + 5 ≤ field_size label found)
needed_least label reads None = tt
needed_least label reads (Some v) = by (reads v)
  where
    by : {U : Type 0} (o : Option U) → IfSome o (λ x. length label + 5 ≤ length label + 4 + size v)
    by None = tt
    by (Some x) = let p = positive v in omega (arith, p)

-- the digits of a number
abbrev digits : ℕ → ℕ
digits n = length (compact_text (number_data n))

zero_digits : digits 0 ≤ 1
zero_digits = length-decimal-le 1 0 (omega arith) (omega arith) (omega arith)

seconds_digits : (o : Option ℕ) → Is32 (unwrap_or o 0) → digits (unwrap_or o 0) ≤ 1 + 10 * least (codes "time") o
seconds_digits None h = let z = zero_digits in omega (arith, z)
seconds_digits (Some n) h = let b = number_bound n h in omega (arith, b)

-- octets up and down and their total
abbrev volume_digits : (ℕ × ℕ) → ℕ
volume_digits v = digits v.0 + digits v.1 + digits (total_of v.0 v.1)

volumes_bound : (v : ℕ × ℕ) → IsVolume v.0 → IsVolume v.1 → volume_digits v ≤ 57
volumes_bound v up down =
    let a = volume_bound v.0 (omega (arith, up)) in
    let b = volume_bound v.1 (omega (arith, down)) in
    let c = volume_bound (total_of v.0 v.1) (omega (arith, up, down)) in
    omega (arith, a, b, c)

abbrev VolumesCost : ℕ → (ℕ × ℕ) → Type 0
VolumesCost n v = IsVolume v.0 → IsVolume v.1 → volume_digits v ≤ n

any_volumes : (n : ℕ) → 57 ≤ n → (o : Option (ℕ × ℕ)) → IfSome o (VolumesCost n)
any_volumes n le None = tt
any_volumes n le (Some v) = λ up down. let b = volumes_bound v up down in omega (arith, b, le)

-- how much three volumes take of a container at least
abbrev least_size : Option ℕ → Option ℕ → Option ℕ → ℕ
least_size up down total =
    least (codes "uplinkVolume") up + least (codes "downlinkVolume") down + least (codes "totalVolume") total

directions_cost : (up down total : Option ℕ)
    → IfSome (directions up down total) (VolumesCost (3 + 10 * least_size up down total))
directions_cost (Some up) down total = any_volumes _ (omega arith) (directions (Some up) down total)
directions_cost None (Some down) total = any_volumes _ (omega arith) (directions None (Some down) total)
directions_cost None None (Some total) = any_volumes _ (omega arith) (directions None None (Some total))
directions_cost None None None = λ up down. let z = zero_digits in omega (arith, z)

-- how much the three volumes take of a container
abbrev volumes_size : Data → ℕ
volumes_size value =
    part (codes "uplinkVolume") value + part (codes "downlinkVolume") value + part (codes "totalVolume") value

weaker : (n m : ℕ) (o : Option (ℕ × ℕ)) → n ≤ m → IfSome o (VolumesCost n) → IfSome o (VolumesCost m)
weaker n m None le h = tt
weaker n m (Some v) le h = λ up down. let b = h up down in omega (arith, b, le)

volumes_cost : (value : Data) → IfSome (volumes_of value) (VolumesCost (3 + 10 * volumes_size value))
volumes_cost value =
    let P = VolumesCost (3 + 10 * volumes_size value) in
    then_least (codes "uplinkVolume") volume value P _ (λ up hu.
    then_least (codes "downlinkVolume") volume value P _ (λ down hd.
    then_least (codes "totalVolume") (number_to (2 ^ 61)) value P _ (λ total ht.
    weaker (3 + 10 * least_size up down total) (3 + 10 * volumes_size value) (directions up down total)
    (omega (arith, hu, hd, ht))
    (directions_cost up down total))))

-- what the counts of a container take
record CountsCost (value : Data) (counts : Counts) : Type 0 where
  lsn : 24 ≤ part (codes "localSequenceNumber") value
  seconds : Is32 counts.seconds → digits counts.seconds ≤ 1 + 10 * part (codes "time") value
  volumes : VolumesCost (3 + 10 * volumes_size value) (counts.up, counts.down)

counts_cost : (value : Data) → IfSome (counts_of value) (CountsCost value)
counts_cost value =
    let number = given (codes "localSequenceNumber") value in
    chain (λ lsn. 24 ≤ part (codes "localSequenceNumber") value) (CountsCost value) (needed number_32 number) _
    (needed_least (codes "localSequenceNumber") number_32 number) (λ lsn hl.
    then_least (codes "time") number_32 value (CountsCost value) _ (λ seconds hs.
    mapped (VolumesCost (3 + 10 * volumes_size value)) (CountsCost value) (volumes_of value) _ (volumes_cost value)
    (λ volumes hv. record {
      lsn = hl;
      seconds = λ h. let d = seconds_digits seconds h in omega (arith, d, hs);
      volumes = hv;
    })))

span_bound : (used : Used) → length (compact_text (span_data used)) ≤ 85
unfolding escape_byte
span_bound used =
    let whole = object_bound (span_fields used) in
    let first = field_bound (codes "timeofFirstUsage") (time_data used.first) 22 (record { same = refl })
    (time_bound used.first) in
    let last = field_bound (codes "timeofLastUsage") (time_data used.last) 22 (record { same = refl })
    (time_bound used.last) in
    omega (arith, whole, first, last)

used_bound : (used : Used) → Is32 used.lsn
    → length (compact_text (used_data used)) ≤ 246 + volume_digits (used.up, used.down) + digits used.seconds
    + field_text (codes "triggers") (listed (map trigger_data used.triggers))
unfolding escape_byte
used_bound used small =
    let whole = object_bound (used_fields used) in
    let down = field_bound (codes "downlinkVolume") (number_data used.down) (digits used.down)
    (record { same = refl }) (omega arith) in
    let lsn = field_bound (codes "localSequenceNumber") (number_data used.lsn) 10 (record { same = refl })
    (number_bound used.lsn small) in
    let span = field_bound (codes "pDUContainerInformation") (span_data used) 85 (record { same = refl })
    (span_bound used) in
    let seconds = field_bound (codes "time") (number_data used.seconds) (digits used.seconds)
    (record { same = refl }) (omega arith) in
    let total = field_bound (codes "totalVolume") (number_data (total_of used.up used.down))
    (digits (total_of used.up used.down)) (record { same = refl }) (omega arith) in
    let moment = field_bound (codes "triggerTimestamp") (time_data used.moment) 22 (record { same = refl })
    (time_bound used.moment) in
    let up = field_bound (codes "uplinkVolume") (number_data used.up) (digits used.up) (record { same = refl })
    (omega arith) in
    omega (arith, whole, down, lsn, span, seconds, total, moment, up)

used_size : (value : Data)
    → part (codes "localSequenceNumber") value + part (codes "time") value + volumes_size value
    + part (codes "triggers") value + 1 ≤ size value
used_size value =
    let names = codes "localSequenceNumber" ∷ codes "time" ∷ codes "uplinkVolume" ∷ codes "downlinkVolume"
    ∷ codes "totalVolume" ∷ codes "triggers" ∷ [] in
    let h = fields_fit names value refl in
    omega (arith, h)

pub used_costs : (group stamp : ℕ) → Costs (used_of group stamp) used_data (FitsContainer group)
unfolding escape_byte
used_costs group stamp value =
    let P = Written used_data (FitsContainer group) (size value) in
    chain (CountsCost value) P (counts_of value) _ (counts_cost value) (λ counts hc.
    step P (times_of stamp value) _ (λ times.
    last_list (codes "triggers") (list_of sound_kind) trigger_data IsKind (record { same = refl })
    (list_costs sound_kind trigger_data IsKind kind_costs) value P _ (λ triggers ht fits.
    let whole = used_bound (with_used group counts times (or_empty triggers)) fits.number in
    let all = used_size value in
    let lsn = hc.lsn in
    let seconds = hc.seconds fits.seconds in
    let volumes = hc.volumes fits.up fits.down in
    let kinds = ht fits.kinds in
    omega (arith, whole, all, lsn, seconds, volumes, kinds))))

-- ---- entries

ask_costs : Costs ask_of ask_data FitsAsk
unfolding escape_byte
ask_costs value =
    let P = Written ask_data FitsAsk (size value) in
    if_in P (is_object value) _ (
    then_optional (codes "totalVolume") volume number_data IsVolume (record { same = refl }) volume_costs value P _
    (λ octets ho.
    last_optional (codes "time") number_32 number_data Is32 (record { same = refl }) number_costs value P _
    (λ seconds hs fits.
    let whole = object_bound (ask_fields (with_ask octets seconds)) in
    let all = fields_fit (codes "time" ∷ codes "totalVolume" ∷ []) value refl in
    let o = ho fits.octets in
    let s = hs fits.time in
    omega (arith, whole, all, o, s))))

pub entry_costs : (stamp : ℕ) → Costs (entry_of stamp) usage_data FitsUsage
unfolding escape_byte
entry_costs stamp value =
    let P = Written usage_data FitsUsage (size value) in
    then_needed (codes "ratingGroup") number_32 number_data Is32 (record { same = refl }) number_costs value P _
    (λ group hg.
    then_optional (codes "requestedUnit") ask_of ask_data FitsAsk (record { same = refl }) ask_costs value P _
    (λ ask ha.
    last_list (codes "usedUnitContainer") (short_list_of (used_of group stamp)) used_data (FitsContainer group)
    (record { same = refl })
    (short_list_costs (used_of group stamp) used_data (FitsContainer group) (used_costs group stamp)) value P _
    (λ used hu fits.
    let whole = object_bound (usage_fields (with_usage group ask used)) in
    let all = fields_fit (codes "ratingGroup" ∷ codes "requestedUnit" ∷ codes "usedUnitContainer" ∷ []) value refl in
    let g = hg fits.number in
    let a = ha fits.asked in
    let u = hu fits.containers in
    omega (arith, whole, all, g, a, u))))
