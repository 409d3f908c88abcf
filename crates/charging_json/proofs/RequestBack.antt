-- A request in range reads back from what is written.
use Rattle.std.proofs.Common.{◌≡◌, ◌≤◌, ◌+◌, ◌^◌, ◌==◌, ℕ, Bool, true, false, not, ◌||◌, ◌&&◌, List, map, nat_le, Option, Some, None, Ok, option_map, refl, sym, ◌∙◌, ap, arith, codes, if◌then◌else◌}
use Rattle.std.proofs.lemmas.Bool.Decides.{nat_tests}
use Rattle.serde_json.specs.Data.{Data, string}
use Rattle.units.specs.Names.{spells_name, is_address}
use Rattle.units.specs.Ranges.{is_create}
use Rattle.moments.specs.Text.{time_of, time_text}
use Rattle.units.specs.declared.request.Ask.{Ask}
use Rattle.units.specs.declared.request.Used.{Used}
use Rattle.units.specs.declared.request.UnitUsage.{UnitUsage}
use Rattle.units.specs.declared.request.Request.{Request}
use Rattle.units.specs.declared.request.Operation.{Operation}
use Rattle.json_objects.specs.Fields.{unless_null, given, is_object, number_to, number_32, volume, time, name, text_that, optional, list_of, or_empty, allowed, required_if}
use Rattle.json_objects.specs.ReadBack.{ReadBackLaws}
use Rattle.charging_json.specs.Triggers.{sound_kind}
use Rattle.charging_json.specs.Usage.{times_of, counts_of, with_counts, used_of, ask_of, with_ask, containers_of, entry_of, short_list_of}
use Rattle.charging_json.specs.Request.{consumer_of, charging_id_place, given_within, either_place, is_again, with_request, request_of}
use Rattle.serde_json.specs.Find.{as_bool}
use Rattle.std.specs.Option.{is_some}
use Rattle.std.proofs.lemmas.Bool.{and_parts, true≢false}
use Rattle.json_objects.specs.Objects.{number_data, time_data, listed}
use Rattle.charging_json.specs.RequestWritten.{trigger_data, total_of, span_data, used_data, used_fields, ask_data, ask_fields, usage_data, usage_fields, consumer_data, again_data, request_data, request_fields}
use Rattle.units.specs.Ranges.{IsKind, IsName, IsAddress, IsVolume, Is32, FitsContainer, FitsAsk, FitsUsage, FitsRequest}
use Rattle.charging_json.proofs.LookUp.{not_null, unless_empty, empty_again, list_back, short_list_back, optional_is, given_back, present, allowed_is, required_if_is}

-- each moment's text reads as it
abbrev pub TimesRead : Type 0
TimesRead = (moment : ℕ) → moment ≤ 3155759999 → time_of (time_text moment) ≡ Some moment

pub number_back : (most n : ℕ) → n ≤ most → number_to most (number_data n) ≡ Some n
number_back most n h = let test : nat_le n most ≡ true = grind (arith, nat_tests, h) in rw test refl

pub text_back : (test : List ℕ → Bool) (text : List ℕ) → test text ≡ true → text_that test (string text) ≡ Some text
text_back test text h = rw h refl

-- ---- triggers

pub trigger_back : (kind : List ℕ) → IsKind kind → sound_kind (trigger_data kind) ≡ Some kind
trigger_back kind h = rw h refl

-- ---- containers

counts_from : (value : Data) (lsn seconds up down total : ℕ)
    → given (codes "localSequenceNumber") value ≡ Some (number_data lsn) → given (codes "time") value ≡ Some (number_data seconds)
    → given (codes "uplinkVolume") value ≡ Some (number_data up) → given (codes "downlinkVolume") value ≡ Some (number_data down) → given (codes "totalVolume") value ≡ Some (number_data total)
    → lsn ≤ 4294967295 → seconds ≤ 4294967295 → up ≤ 2 ^ 60 → down ≤ 2 ^ 60 → total ≡ up + down
    → counts_of value ≡ Some (with_counts lsn (Some seconds) (up, down))
counts_from value lsn seconds up down total g1 g2 g3 g4 g5 l1 l2 l3 l4 sum =
    let t1 : nat_le lsn 4294967295 ≡ true = grind (arith, nat_tests, l1) in
    let t2 : nat_le seconds 4294967295 ≡ true = grind (arith, nat_tests, l2) in
    let t3 : nat_le up (2 ^ 60) ≡ true = grind (arith, nat_tests, l3) in
    let t4 : nat_le down (2 ^ 60) ≡ true = grind (arith, nat_tests, l4) in
    let t5 : nat_le total (2 ^ 61) ≡ true = grind (arith, nat_tests, l3, l4, sum) in
    let t6 : (total == up + down) ≡ true = grind (arith, nat_tests, sum) in
    rw (g1, t1, g2, t2, g3, t3, g4, t4, g5, t5, t6) refl

times_from : (stamp : ℕ) (value info : Data) (moment first last : ℕ) → TimesRead
    → given (codes "triggerTimestamp") value ≡ Some (time_data moment) → given (codes "pDUContainerInformation") value ≡ Some info → is_object info ≡ true
    → given (codes "timeofFirstUsage") info ≡ Some (time_data first) → given (codes "timeofLastUsage") info ≡ Some (time_data last)
    → moment ≤ 3155759999 → first ≤ last → last ≤ 3155759999
    → times_of stamp value ≡ Some (record { moment = moment; first = first; last = last })
times_from stamp value info moment first last back g1 g2 o g3 g4 l1 order l2 =
    let t1 = back moment l1 in
    let t2 = back first (omega arith) in
    let t3 = back last l2 in
    let test : nat_le first last ≡ true = grind (arith, nat_tests, order) in
    rw (g1, t1, g2, o, g3, t2, g4, t3, test) refl

used_from : (group stamp lsn seconds up down moment first last : ℕ) (value : Data) (kinds : List (List ℕ))
    → counts_of value ≡ Some (with_counts lsn (Some seconds) (up, down)) → times_of stamp value ≡ Some (record { moment = moment; first = first; last = last })
    → optional (list_of sound_kind) (given (codes "triggers") value) ≡ Some (unless_empty kinds)
    → used_of group stamp value ≡ Some (record { lsn = lsn; group = group; up = up; down = down; seconds = seconds; first = first; last = last; triggers = kinds; moment = moment })
used_from group stamp lsn seconds up down moment first last value kinds e1 e2 e3 = rw (e1, e2, e3, empty_again kinds) refl

kinds_given : ReadBackLaws → (used : Used) → given (codes "triggers") (used_data used) ≡ listed (map trigger_data used.triggers)
kinds_given laws used = laws.look_up (codes "triggers") (used_fields used) ∙ not_null (map trigger_data used.triggers)

total_is : (up down : ℕ) → up ≤ 2 ^ 60 → down ≤ 2 ^ 60 → total_of up down ≡ up + down
total_is up down a b = omega arith

pub used_back : ReadBackLaws → TimesRead → (group stamp : ℕ) (used : Used) → FitsContainer group used → used_of group stamp (used_data used) ≡ Some used
used_back laws times group stamp used fits =
    let value = used_data used in
    let counts = counts_from value used.lsn used.seconds used.up used.down (total_of used.up used.down)
    (laws.look_up (codes "localSequenceNumber") (used_fields used)) (laws.look_up (codes "time") (used_fields used)) (laws.look_up (codes "uplinkVolume") (used_fields used))
    (laws.look_up (codes "downlinkVolume") (used_fields used)) (laws.look_up (codes "totalVolume") (used_fields used))
    fits.number fits.seconds fits.up fits.down (total_is used.up used.down fits.up fits.down) in
    let span = times_from stamp value (span_data used) used.moment used.first used.last times
    (laws.look_up (codes "triggerTimestamp") (used_fields used)) (laws.look_up (codes "pDUContainerInformation") (used_fields used)) refl refl refl fits.closed fits.in_order fits.last in
    let kinds = optional_is (list_of sound_kind) (given (codes "triggers") value) (unless_empty used.triggers)
    (ap (option_map (list_of sound_kind)) (kinds_given laws used) ∙ list_back sound_kind trigger_data IsKind used.triggers trigger_back fits.kinds) in
    used_from group stamp used.lsn used.seconds used.up used.down used.moment used.first used.last value used.triggers counts span kinds
    ∙ ap (λ g. Some (record used { group = g })) (sym fits.of_group)

-- ---- entries

ask_from : (value : Data) (octets seconds : Option ℕ) → is_object value ≡ true → optional volume (given (codes "totalVolume") value) ≡ Some octets → optional number_32 (given (codes "time") value) ≡ Some seconds → ask_of value ≡ Some (with_ask octets seconds)
ask_from value octets seconds o e1 e2 = rw (o, e1, e2) refl

pub ask_back : ReadBackLaws → (ask : Ask) → FitsAsk ask → ask_of (ask_data ask) ≡ Some ask
ask_back laws ask fits =
    let value = ask_data ask in
    ask_from value ask.volume ask.seconds refl
    (optional_is volume (given (codes "totalVolume") value) ask.volume
    (ap (option_map volume) (laws.look_up (codes "totalVolume") (ask_fields ask) ∙ present number_data ask.volume (λ n. refl)) ∙ given_back volume number_data IsVolume ask.volume (number_back (2 ^ 60)) fits.octets))
    (optional_is number_32 (given (codes "time") value) ask.seconds
    (ap (option_map number_32) (laws.look_up (codes "time") (ask_fields ask) ∙ present number_data ask.seconds (λ n. refl)) ∙ given_back number_32 number_data Is32 ask.seconds (number_back 4294967295) fits.time))

entry_from : (stamp : ℕ) (value : Data) (group : ℕ) (ask : Option Ask) (used : List Used)
    → given (codes "ratingGroup") value ≡ Some (number_data group) → group ≤ 4294967295
    → optional ask_of (given (codes "requestedUnit") value) ≡ Some ask → containers_of stamp group value ≡ Some (unless_empty used)
    → entry_of stamp value ≡ Some (record { group = group; ask = ask; used = used })
entry_from stamp value group ask used g l e1 e2 =
    let test : nat_le group 4294967295 ≡ true = grind (arith, nat_tests, l) in
    rw (g, test, e1, e2, empty_again used) refl

pub usage_back : ReadBackLaws → TimesRead → (stamp : ℕ) (usage : UnitUsage) → FitsUsage usage → entry_of stamp (usage_data usage) ≡ Some usage
usage_back laws times stamp usage fits =
    let value = usage_data usage in
    entry_from stamp value usage.group usage.ask usage.used
    (laws.look_up (codes "ratingGroup") (usage_fields usage)) fits.number
    (optional_is ask_of (given (codes "requestedUnit") value) usage.ask
    (ap (option_map ask_of) (laws.look_up (codes "requestedUnit") (usage_fields usage) ∙ present ask_data usage.ask (λ ask. refl)) ∙ given_back ask_of ask_data FitsAsk usage.ask (ask_back laws) fits.asked))
    (optional_is (short_list_of (used_of usage.group stamp)) (given (codes "usedUnitContainer") value) (unless_empty usage.used)
    (ap (option_map (short_list_of (used_of usage.group stamp))) (laws.look_up (codes "usedUnitContainer") (usage_fields usage) ∙ not_null (map used_data usage.used))
    ∙ short_list_back (used_of usage.group stamp) used_data (FitsContainer usage.group) usage.used (used_back laws times usage.group stamp) fits.containers fits.few))

-- ---- requests

request_from : (operation : Operation) (value : Data) (consumer : List ℕ) (stamp number : ℕ) (subscriber : Option (List ℕ)) (charging_id : Option ℕ) (again : Option Bool) (notify : Option (List ℕ)) (usage : Option (List UnitUsage)) (triggers : Option (List (List ℕ)))
    → option_map consumer_of (given (codes "nfConsumerIdentification") value) ≡ Some (Some consumer)
    → option_map time (given (codes "invocationTimeStamp") value) ≡ Some (Some stamp)
    → option_map number_32 (given (codes "invocationSequenceNumber") value) ≡ Some (Some number)
    → required_if (is_create operation) (codes "subscriberIdentifier") (option_map name (given (codes "subscriberIdentifier") value)) ≡ Ok subscriber
    → required_if (is_create operation) (codes "chargingId") (option_map number_32 (charging_id_place value)) ≡ Ok charging_id
    → allowed (codes "retransmissionIndicator") (option_map as_bool (given (codes "retransmissionIndicator") value)) ≡ Ok again
    → allowed (codes "notifyUri") (option_map (text_that is_address) (given (codes "notifyUri") value)) ≡ Ok notify
    → allowed (codes "multipleUnitUsage") (option_map (short_list_of (entry_of stamp)) (given (codes "multipleUnitUsage") value)) ≡ Ok usage
    → allowed (codes "triggers") (option_map (list_of sound_kind) (given (codes "triggers") value)) ≡ Ok triggers
    → request_of operation value ≡ Ok (with_request operation consumer stamp number subscriber charging_id again notify usage triggers)
request_from operation value consumer stamp number subscriber charging_id again notify usage triggers e1 e2 e3 e4 e5 e6 e7 e8 e9 = rw (e1, e2, e3, e4, e5, e6, e7, e8, e9) refl

needs : (must a b : Bool) → (not must || (a && b)) ≡ true → (must ≡ true → a ≡ true) × (must ≡ true → b ≡ true)
needs true a b h = let both = and_parts a b h in (λ e. both.0, λ e. both.1)
needs false a b h = (λ e. absurd (true≢false (sym e)), λ e. absurd (true≢false (sym e)))

consumer_back : (label : List ℕ) → spells_name label ≡ true → consumer_of (consumer_data label) ≡ Some label
consumer_back label h = text_back spells_name label h

place_is : (a : Option Data) (b : Option Data) → b ≡ None → either_place a b ≡ a
place_is None b e = e
place_is (Some d) b e = refl

again_given : (again : Bool) → allowed (codes "retransmissionIndicator") (option_map as_bool (unless_null (again_data again))) ≡ Ok (if again then Some true else None)
again_given true = refl
again_given false = refl

again_is : (again : Bool) → is_again (if again then Some true else None) ≡ again
again_is true = refl
again_is false = refl

pub request_back : ReadBackLaws → TimesRead → (request : Request) → FitsRequest request → request_of request.operation (request_data request) ≡ Ok request
request_back laws times request fits =
    let value = request_data request in
    let fields = request_fields request in
    let must = needs (is_create request.operation) (is_some request.subscriber) (is_some request.charging_id) fits.complete in
    let whole = request_from request.operation value request.consumer request.stamp request.number request.subscriber request.charging_id (if request.again then Some true else None) request.notify (unless_empty request.usage) (unless_empty request.triggers)
    (ap (option_map consumer_of) (laws.look_up (codes "nfConsumerIdentification") fields) ∙ ap Some (consumer_back request.consumer fits.name))
    (ap (option_map time) (laws.look_up (codes "invocationTimeStamp") fields) ∙ ap Some (times request.stamp fits.stamped))
    (ap (option_map number_32) (laws.look_up (codes "invocationSequenceNumber") fields) ∙ ap Some (number_back 4294967295 request.number fits.numbered))
    (required_if_is (is_create request.operation) (codes "subscriberIdentifier") (option_map name (given (codes "subscriberIdentifier") value)) request.subscriber
    (ap (option_map name) (laws.look_up (codes "subscriberIdentifier") fields ∙ present string request.subscriber (λ t. refl)) ∙ given_back name string IsName request.subscriber (text_back spells_name) fits.subscribed) must.0)
    (required_if_is (is_create request.operation) (codes "chargingId") (option_map number_32 (charging_id_place value)) request.charging_id
    (ap (option_map number_32) (place_is (given (codes "chargingId") value) (given_within (codes "chargingId") (given (codes "pDUSessionChargingInformation") value)) (ap (given_within (codes "chargingId")) (laws.look_up (codes "pDUSessionChargingInformation") fields))
    ∙ laws.look_up (codes "chargingId") fields ∙ present number_data request.charging_id (λ n. refl)) ∙ given_back number_32 number_data Is32 request.charging_id (number_back 4294967295) fits.charged) must.1)
    (ap (λ o. allowed (codes "retransmissionIndicator") (option_map as_bool o)) (laws.look_up (codes "retransmissionIndicator") fields) ∙ again_given request.again)
    (allowed_is (codes "notifyUri") (option_map (text_that is_address) (given (codes "notifyUri") value)) request.notify
    (ap (option_map (text_that is_address)) (laws.look_up (codes "notifyUri") fields ∙ present string request.notify (λ t. refl)) ∙ given_back (text_that is_address) string IsAddress request.notify (text_back is_address) fits.notified))
    (allowed_is (codes "multipleUnitUsage") (option_map (short_list_of (entry_of request.stamp)) (given (codes "multipleUnitUsage") value)) (unless_empty request.usage)
    (ap (option_map (short_list_of (entry_of request.stamp))) (laws.look_up (codes "multipleUnitUsage") fields ∙ not_null (map usage_data request.usage))
    ∙ short_list_back (entry_of request.stamp) usage_data FitsUsage request.usage (usage_back laws times request.stamp) fits.entries fits.few))
    (allowed_is (codes "triggers") (option_map (list_of sound_kind) (given (codes "triggers") value)) (unless_empty request.triggers)
    (ap (option_map (list_of sound_kind)) (laws.look_up (codes "triggers") fields ∙ not_null (map trigger_data request.triggers)) ∙ list_back sound_kind trigger_data IsKind request.triggers trigger_back fits.kinds)) in
    whole
    ∙ ap (λ again. Ok (record request { again = again; usage = or_empty (unless_empty request.usage); triggers = or_empty (unless_empty request.triggers) })) (again_is request.again)
    ∙ ap (λ usage. Ok (record request { usage = usage; triggers = or_empty (unless_empty request.triggers) })) (empty_again request.usage)
    ∙ ap (λ triggers. Ok (record request { triggers = triggers })) (empty_again request.triggers)
