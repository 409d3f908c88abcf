-- A request is written with at most ten times the bytes of the body that it was read from.
use Rattle.std.proofs.Common.{◌≡◌, ◌≤◌, ◌+◌, ◌*◌, ℕ, Bool, true, false, List, [], ◌∷◌, length, Option, Some, None, Result, Ok, Err, IfSome, IfOk, option_map, refl, subst, arith, codes}
use Rattle.json.specs.Print.{escape_byte}
use Rattle.serde_json.specs.Data.{Data, boolean, string}
use Rattle.serde_json.specs.Find.{as_bool}
use Rattle.serde_json.specs.Written.{compact_text}
use Rattle.units.specs.Names.{spells_name, is_address}
use Rattle.units.specs.Ranges.{Is32, IsMoment, IsKind, IsName, IsAddress, IfGiven, FitsUsage, FitsRequest, is_create}
use Rattle.units.specs.declared.refusal.JsonRefusal.{JsonRefusal}
use Rattle.units.specs.declared.request.Operation.{Operation}
use Rattle.units.specs.declared.request.Request.{Request}
use Rattle.json_objects.specs.Body.{object_in}
use Rattle.json_objects.specs.Fields.{given, number_32, time, name, text_that, list_of, allowed, required_if, after}
use Rattle.json_objects.specs.Objects.{number_data, time_data}
use Rattle.json_objects.specs.Sizes.{size, BodiesHoldTheirObjects}
use Rattle.charging_json.specs.Triggers.{sound_kind}
use Rattle.charging_json.specs.Usage.{entry_of, short_list_of}
use Rattle.charging_json.specs.Request.{either_place, consumer_place, named, consumer_of, given_within, charging_id_place, is_again, with_request, request_of, request_by, request_in}
use Rattle.charging_json.specs.RequestWritten.{trigger_data, usage_data, consumer_data, consumer_fields, again_data, request_data, request_fields}
use Rattle.charging_json.specs.RequestBound.{WrittenRequestsAreBounded}
use Rattle.charging_json.proofs.InRange.{then_in, request_of_fits}
use Rattle.charging_json.proofs.ReadSizes.{field_size, part, fields_fit}
use Rattle.charging_json.proofs.WrittenSizes.{field_text, object_bound, field_bound, string_bound, number_bound}
use Rattle.charging_json.proofs.ReadCosts.{Written, Costs, number_costs, text_size, text_costs, time_costs, then_required, then_allowed, then_required_if, list_costs, short_list_costs, then_allowed_list}
use Rattle.charging_json.proofs.EntryCosts.{kind_costs, entry_costs}

-- a request's text takes at most ten times so many bytes
abbrev TakesTenfold : ℕ → Request → Type 0
TakesTenfold n request = length (compact_text (request_data request)) ≤ 10 * n

-- the same where the request is in range
abbrev InTenfold : ℕ → Request → Type 0
InTenfold n request = FitsRequest request → TakesTenfold n request

-- ---- the consumer

consumer_bound : (name : List ℕ) → length (compact_text (consumer_data name)) ≤ 6 * length name + 40
unfolding escape_byte
consumer_bound name =
    let whole = object_bound (consumer_fields name) in
    let first = field_bound (codes "nFName") (string name) (6 * length name + 2) (record { same = refl })
    (string_bound name) in
    let second = field_bound (codes "nodeFunctionality") (string (codes "SMF")) 5 (record { same = refl })
    (omega arith) in
    omega (arith, whole, first, second)

-- a value within another
abbrev IsWithin : ℕ → Option Data → Type 0
IsWithin n place = IfSome place (λ v. size v + 5 ≤ n)

given_within_value : (label : List ℕ) (value : Data) → IsWithin (size value) (given label value)
given_within_value label value = by (given label value) (fields_fit (label ∷ []) value refl)
  where
    by : (o : Option Data) → field_size label o + 0 + 1 ≤ size value → IsWithin (size value) o
    by None h = tt
    by (Some v) h = omega (arith, h)

either_within : (n : ℕ) (a b : Option Data) → IsWithin n a → IsWithin n b → IsWithin n (either_place a b)
either_within n None b h k = k
either_within n (Some v) b h k = h

consumer_costs : Costs consumer_of consumer_data IsName
consumer_costs value =
    by (consumer_place value)
    (either_within (size value) (given (codes "nFName") value) _ (given_within_value (codes "nFName") value)
    (either_within (size value) (given (codes "nFIPv4Address") value) (given (codes "nFFqdn") value)
    (given_within_value (codes "nFIPv4Address") value) (given_within_value (codes "nFFqdn") value)))
  where
    of_name : (v : Data) → size v + 5 ≤ size value → (o : Option (List ℕ))
        → IfSome o (λ text. length text + 2 ≤ size v) → IfSome o (Written consumer_data IsName (size value))
    of_name v h None k = tt
    of_name v h (Some text) k = λ is. let b = consumer_bound text in omega (arith, b, h, k)

    by : (place : Option Data) → IsWithin (size value) place
        → IfSome (named place) (Written consumer_data IsName (size value))
    by None h = tt
    by (Some v) h = of_name v h (name v) (text_size spells_name v)

-- ---- the charging id

-- how much the two fields take that may have it
abbrev charging_id_size : Data → ℕ
charging_id_size value = part (codes "chargingId") value + part (codes "pDUSessionChargingInformation") value

-- what is written of it
abbrev ChargingIdCosts : ℕ → Option ℕ → Type 0
ChargingIdCosts n o = IfGiven Is32 o → field_text (codes "chargingId") (option_map number_data o) ≤ 10 * n

charging_id_bound : (id n : ℕ) → 3 ≤ n → Is32 id → field_text (codes "chargingId") (Some (number_data id)) ≤ 10 * n
unfolding escape_byte
charging_id_bound id n most small =
    let f = field_bound (codes "chargingId") (number_data id) 10 (record { same = refl }) (number_bound id small) in
    omega (arith, f, most)

charging_id_there : (must : Bool) (n : ℕ) → 3 ≤ n → (value : Data)
    → IfOk (required_if must (codes "chargingId") (Some (number_32 value))) (ChargingIdCosts n)
charging_id_there must n most value = by (number_32 value)
  where
    by : (o : Option ℕ) → IfOk (required_if must (codes "chargingId") (Some o)) (ChargingIdCosts n)
    by None = tt
    by (Some id) = charging_id_bound id n most

charging_id_costs : (must : Bool) (top session : Option Data)
    → IfOk (required_if must (codes "chargingId")
    (option_map number_32 (either_place top (given_within (codes "chargingId") session))))
    (ChargingIdCosts (field_size (codes "chargingId") top + field_size
    (codes "pDUSessionChargingInformation") session))
charging_id_costs must (Some value) session = charging_id_there must _ (omega arith) value
charging_id_costs true None None = tt
charging_id_costs false None None = λ h. omega arith
charging_id_costs must None (Some info) = by must (given (codes "chargingId") info)
  where
    by : (must : Bool) (found : Option Data)
        → IfOk (required_if must (codes "chargingId") (option_map number_32 found))
        (ChargingIdCosts (0 + (length (codes "pDUSessionChargingInformation") + 4 + size info)))
    by true None = tt
    by false None = λ h. omega arith
    by must (Some value) = charging_id_there must _ (omega arith) value

then_charging_id : {B : Type 0} (must : Bool) (value : Data) (Q : B → Type 0) (f : Option ℕ → Result B JsonRefusal)
    → ((o : Option ℕ) → ChargingIdCosts (charging_id_size value) o → IfOk (f o) Q)
    → IfOk (after (required_if must (codes "chargingId") (option_map number_32 (charging_id_place value))) f) Q
then_charging_id must value Q f =
    let read = required_if must (codes "chargingId") (option_map number_32 (charging_id_place value)) in
    let session = given (codes "pDUSessionChargingInformation") value in
    then_in (ChargingIdCosts (charging_id_size value)) Q read f
    (charging_id_costs must (given (codes "chargingId") value) session)

-- ---- the indicator of a retransmission

abbrev again_label : List ℕ
again_label = codes "retransmissionIndicator"

again_bound : (b : Bool) (n : ℕ) → 4 ≤ n → field_text again_label (again_data b) ≤ 10 * n
unfolding escape_byte
again_bound true n le =
    let f = field_bound again_label (boolean true) 4 (record { same = refl }) (omega arith) in omega (arith, f, le)
again_bound false n le = omega arith

-- what is written of it
abbrev AgainCosts : ℕ → Option Bool → Type 0
AgainCosts n o = field_text again_label (again_data (is_again o)) ≤ 10 * n

again_costs : (found : Option Data)
    → IfOk (allowed again_label (option_map as_bool found)) (AgainCosts (field_size again_label found))
again_costs None = omega arith
again_costs (Some value) = by (as_bool value)
  where
    by : (o : Option Bool) → IfOk (allowed again_label (Some o)) (AgainCosts (field_size again_label (Some value)))
    by None = tt
    by (Some b) = again_bound b _ (omega arith)

then_again : {B : Type 0} (value : Data) (Q : B → Type 0) (f : Option Bool → Result B JsonRefusal)
    → ((o : Option Bool) → AgainCosts (part again_label value) o → IfOk (f o) Q)
    → IfOk (after (allowed again_label (option_map as_bool (given again_label value))) f) Q
then_again value Q f =
    let found = given again_label value in
    then_in (AgainCosts (part again_label value)) Q (allowed again_label (option_map as_bool found)) f
    (again_costs found)

-- ---- requests

-- the fields that a request is read from
request_names : List (List ℕ)
request_names =
    codes "nfConsumerIdentification" ∷ codes "invocationTimeStamp" ∷ codes "invocationSequenceNumber"
    ∷ codes "subscriberIdentifier" ∷ codes "chargingId" ∷ codes "pDUSessionChargingInformation"
    ∷ codes "retransmissionIndicator" ∷ codes "notifyUri" ∷ codes "multipleUnitUsage" ∷ codes "triggers" ∷ []

request_costs : (operation : Operation) (value : Data) → IfOk (request_of operation value) (InTenfold (size value))
unfolding escape_byte request_names
request_costs operation value =
    let P = InTenfold (size value) in
    then_required (codes "nfConsumerIdentification") consumer_of consumer_data IsName
    (record { same = refl }) consumer_costs value P _ (λ consumer h1.
    then_required (codes "invocationTimeStamp") time time_data IsMoment (record { same = refl }) time_costs value P _
    (λ stamp h2.
    then_required (codes "invocationSequenceNumber") number_32 number_data Is32
    (record { same = refl }) number_costs value P _ (λ number h3.
    then_required_if (codes "subscriberIdentifier") name string IsName (record { same = refl })
    (text_costs spells_name IsName) value P (is_create operation) _ (λ subscriber h4.
    then_charging_id (is_create operation) value P _ (λ charging_id h5.
    then_again value P _ (λ again again_is.
    then_allowed (codes "notifyUri") (text_that is_address) string IsAddress (record { same = refl })
    (text_costs is_address IsAddress) value P _ (λ notify h7.
    then_allowed_list (codes "multipleUnitUsage") (short_list_of (entry_of stamp)) usage_data FitsUsage
    (record { same = refl })
    (short_list_costs (entry_of stamp) usage_data FitsUsage (entry_costs stamp)) value P _ (λ usage h8.
    then_allowed_list (codes "triggers") (list_of sound_kind) trigger_data IsKind (record { same = refl })
    (list_costs sound_kind trigger_data IsKind kind_costs) value P _ (λ triggers h9 fits.
    let whole = object_bound (request_fields
    (with_request operation consumer stamp number subscriber charging_id again notify usage triggers)) in
    let all = fields_fit request_names value refl in
    let name_is = h1 fits.name in
    let stamped = h2 fits.stamped in
    let numbered = h3 fits.numbered in
    let subscribed = h4 fits.subscribed in
    let charged = h5 fits.charged in
    let notified = h7 fits.notified in
    let entries = h8 fits.entries in
    let kinds = h9 fits.kinds in
    omega (
      arith,
      whole,
      all,
      name_is,
      stamped,
      numbered,
      subscribed,
      charged,
      again_is,
      notified,
      entries,
      kinds,
    ))))))))))

-- ---- bodies

in_range : (n : ℕ) (r : Result Request JsonRefusal) → IfOk r FitsRequest → IfOk r (InTenfold n)
    → IfOk r (TakesTenfold n)
in_range n (Ok request) fits costs = costs fits
in_range n (Err e) fits costs = tt

longer : (n m : ℕ) (r : Result Request JsonRefusal) → n ≤ m → IfOk r (TakesTenfold n) → IfOk r (TakesTenfold m)
longer n m (Ok request) le h = omega (arith, le, h)
longer n m (Err e) le h = tt

of_body : BodiesHoldTheirObjects → (operation : Operation) (body : List ℕ)
    → IfOk (request_in operation body) (TakesTenfold (length body))
of_body hold operation body = by (object_in body) refl
  where
    by : (o : Option Data) → object_in body ≡ o → IfOk (request_by operation o) (TakesTenfold (length body))
    by None e = tt
    by (Some value) e =
        longer (size value) (length body) (request_of operation value) (hold body value e)
        (in_range (size value) (request_of operation value) (request_of_fits operation value)
        (request_costs operation value))

pub request_bound : BodiesHoldTheirObjects → WrittenRequestsAreBounded
request_bound hold operation body request reads =
    subst (λ r. IfOk r (TakesTenfold (length body))) reads (of_body hold operation body)
