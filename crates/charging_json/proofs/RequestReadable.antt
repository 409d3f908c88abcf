-- A request in range can be read as it is written; it nests seven levels deep.
use Rattle.std.proofs.Common.{◌≤◌, ◌<◌, ◌^◌, ℕ, Bool, true, false, List, refl, arith}
use Rattle.serde_json.specs.Data.{string}
use Rattle.units.specs.declared.request.Ask.{Ask}
use Rattle.units.specs.declared.request.Used.{Used}
use Rattle.units.specs.declared.request.UnitUsage.{UnitUsage}
use Rattle.units.specs.declared.request.Request.{Request}
use Rattle.units.specs.Ranges.{Is32, IsVolume, IsKind, FitsContainer, FitsAsk, FitsUsage, FitsRequest}
use Rattle.moments.specs.Text.{time_text}
use Rattle.json_objects.specs.Objects.{number_data, time_data}
use Rattle.json_objects.specs.ReadBack.{CanBeRead, IfThere, ReadBackLaws}
use Rattle.charging_json.specs.RequestWritten.{trigger_data, trigger_fields, total_of, span_data, span_fields, used_data, used_fields, ask_data, ask_fields, usage_data, usage_fields, consumer_data, consumer_fields, again_data, request_data, request_fields}
use Rattle.charging_json.proofs.Readable.{all_readable, some_readable, any_readable, deeper_if}

pub number_readable : ReadBackLaws → (levels n : ℕ) → n ≤ 4294967295 → CanBeRead levels (number_data n)
number_readable laws levels n h = laws.numbers levels n (omega (arith, h))

pub volume_readable : ReadBackLaws → (levels n : ℕ) → n ≤ 2 ^ 60 → CanBeRead levels (number_data n)
volume_readable laws levels n h = laws.numbers levels n (omega (arith, h))

pub time_readable : ReadBackLaws → (levels moment : ℕ) → CanBeRead levels (time_data moment)
time_readable laws levels moment = laws.texts levels (time_text moment)

total_small : (up down : ℕ) → total_of up down < 2 ^ 64
total_small up down = omega arith

trigger_readable : ReadBackLaws → (kind : List ℕ) → CanBeRead 1 (trigger_data kind)
trigger_readable laws kind = laws.objects 0 (trigger_fields kind) refl (laws.texts 0 _, (laws.texts 0 _, tt))

span_readable : ReadBackLaws → (used : Used) → CanBeRead 1 (span_data used)
span_readable laws used = laws.objects 0 (span_fields used) refl (time_readable laws 0 _, (time_readable laws 0 _, tt))

used_readable : ReadBackLaws → (group : ℕ) (used : Used) → FitsContainer group used → CanBeRead 3 (used_data used)
used_readable laws group used fits = laws.objects 2 (used_fields used) refl (
  volume_readable laws 2 _ fits.down,
  (
    number_readable laws 2 _ fits.number,
    (
      laws.deeper 1 2 _ (omega arith) (span_readable laws used),
      (
        number_readable laws 2 _ fits.seconds,
        (
          laws.numbers 2 _ (total_small used.up used.down),
          (
            time_readable laws 2 _,
            (laws.lists 1 _ (all_readable 1 trigger_data IsKind used.triggers (λ kind h. trigger_readable laws kind) fits.kinds), (volume_readable laws 2 _ fits.up, tt)),
          ),
        ),
      ),
    ),
  ),
)

ask_readable : ReadBackLaws → (ask : Ask) → FitsAsk ask → CanBeRead 1 (ask_data ask)
ask_readable laws ask fits =
    laws.objects 0 (ask_fields ask) refl (some_readable 0 number_data Is32 ask.seconds (number_readable laws 0) fits.time, (some_readable 0 number_data IsVolume ask.volume (volume_readable laws 0) fits.octets, tt))

usage_readable : ReadBackLaws → (usage : UnitUsage) → FitsUsage usage → CanBeRead 5 (usage_data usage)
usage_readable laws usage fits = laws.objects 4 (usage_fields usage) refl (
  number_readable laws 4 _ fits.number,
  (
    some_readable 4 ask_data FitsAsk usage.ask (λ ask h. laws.deeper 1 4 _ (omega arith) (ask_readable laws ask h)) fits.asked,
    (laws.lists 3 _ (all_readable 3 used_data (FitsContainer usage.group) usage.used (used_readable laws usage.group) fits.containers), tt),
  ),
)

consumer_readable : ReadBackLaws → (name : List ℕ) → CanBeRead 1 (consumer_data name)
consumer_readable laws name = laws.objects 0 (consumer_fields name) refl (laws.texts 0 _, (laws.texts 0 _, tt))

again_readable : (again : Bool) → IfThere 6 (again_data again)
again_readable true = record { exact = refl; deep = omega arith }
again_readable false = tt

pub request_readable : ReadBackLaws → (request : Request) → FitsRequest request → CanBeRead 7 (request_data request)
request_readable laws request fits = laws.objects 6 (request_fields request) refl (
  some_readable 6 number_data Is32 request.charging_id (number_readable laws 6) fits.charged,
  (
    number_readable laws 6 _ fits.numbered,
    (
      time_readable laws 6 _,
      (
        laws.lists 5 _ (all_readable 5 usage_data FitsUsage request.usage (usage_readable laws) fits.entries),
        (
          laws.deeper 1 6 _ (omega arith) (consumer_readable laws request.consumer),
          (
            any_readable 6 string request.notify (laws.texts 6),
            (
              again_readable request.again,
              (
                any_readable 6 string request.subscriber (laws.texts 6),
                (deeper_if laws 2 6 _ (omega arith) (laws.lists 1 _ (all_readable 1 trigger_data IsKind request.triggers (λ kind h. trigger_readable laws kind) fits.kinds)), tt),
              ),
            ),
          ),
        ),
      ),
    ),
  ),
)
