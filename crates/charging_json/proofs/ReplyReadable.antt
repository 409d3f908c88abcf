-- A reply in range can be read as it is written; it nests five levels deep.
use Rattle.std.proofs.Common.{◌<◌, ◌^◌, ℕ, Option, Some, None, option_map, refl, arith}
use Rattle.serde_json.specs.Data.{string}
use Rattle.units.specs.declared.answer.Answer.{Answer}
use Rattle.units.specs.declared.answer.Amount.{Amount}
use Rattle.units.specs.declared.answer.Amount.TheVariants.{Volume, Seconds}
use Rattle.units.specs.declared.answer.Action.{Action}
use Rattle.units.specs.declared.answer.Handling.{Handling}
use Rattle.units.specs.declared.answer.UnitInfo.{UnitInfo}
use Rattle.units.specs.declared.trigger.TriggerRule.{TriggerRule}
use Rattle.units.specs.declared.reply.Problem.{Problem}
use Rattle.units.specs.Ranges.{Is32, IsVolume, IfGiven}
use Rattle.units.specs.ReplyRanges.{FitsRule, FitsAmount, FitsInfo, FitsAnswer}
use Rattle.json_objects.specs.Objects.{object_of, number_data, time_data}
use Rattle.json_objects.specs.ReadBack.{CanBeRead, IfThere, ReadBackLaws}
use Rattle.charging_json.specs.ReplyWritten.{rule_data, rule_fields, octets_of, seconds_of, granted_fields, granted_data, last_units_data, last_units_fields, info_data, info_fields, result_data, result_fields, failover_data, answer_data, answer_fields, problem_data, problem_fields}
use Rattle.charging_json.proofs.Readable.{all_readable, some_readable, any_readable, deeper_if}
use Rattle.charging_json.proofs.RequestReadable.{number_readable, volume_readable, time_readable}

rule_readable : ReadBackLaws → (rule : TriggerRule) → FitsRule rule → CanBeRead 1 (rule_data rule)
rule_readable laws rule fits = laws.objects 0 (rule_fields rule) refl (
  some_readable 0 number_data Is32 rule.changes (number_readable laws 0) fits.count,
  (
    some_readable 0 number_data Is32 rule.seconds (number_readable laws 0) fits.time,
    (laws.texts 0 _, (laws.texts 0 _, (some_readable 0 number_data IsVolume rule.volume (volume_readable laws 0) fits.octets, tt))),
  ),
)

seconds_readable : ReadBackLaws → (grant : Option Amount) → IfGiven FitsAmount grant → IfThere 0 (option_map number_data (seconds_of grant))
seconds_readable laws None fits = tt
seconds_readable laws (Some (Volume octets)) fits = tt
seconds_readable laws (Some (Seconds seconds)) fits = number_readable laws 0 seconds fits

octets_readable : ReadBackLaws → (grant : Option Amount) → IfGiven FitsAmount grant → IfThere 0 (option_map number_data (octets_of grant))
octets_readable laws None fits = tt
octets_readable laws (Some (Volume octets)) fits = volume_readable laws 0 octets fits
octets_readable laws (Some (Seconds seconds)) fits = tt

granted_object_readable : ReadBackLaws → (grant : Option Amount) (switch : Option ℕ) → IfGiven FitsAmount grant → CanBeRead 1 (object_of (granted_fields grant switch))
granted_object_readable laws grant switch fits =
    laws.objects 0 (granted_fields grant switch) refl (any_readable 0 time_data switch (time_readable laws 0), (seconds_readable laws grant fits, (octets_readable laws grant fits, tt)))

granted_readable : ReadBackLaws → (grant : Option Amount) (switch : Option ℕ) → IfGiven FitsAmount grant → IfThere 1 (granted_data grant switch)
granted_readable laws None None fits = tt
granted_readable laws None (Some switch) fits = granted_object_readable laws None (Some switch) fits
granted_readable laws (Some grant) switch fits = granted_object_readable laws (Some grant) switch fits

last_units_readable : ReadBackLaws → (action : Action) → CanBeRead 1 (last_units_data action)
last_units_readable laws action = laws.objects 0 (last_units_fields action) refl (laws.texts 0 _, tt)

info_readable : ReadBackLaws → (info : UnitInfo) → FitsInfo info → CanBeRead 3 (info_data info)
info_readable laws info fits = laws.objects 2 (info_fields info) refl (
  any_readable 2 last_units_data info.last_units (λ action. laws.deeper 1 2 _ (omega arith) (last_units_readable laws action)),
  (
    deeper_if laws 1 2 _ (omega arith) (granted_readable laws info.grant info.switch fits.granted),
    (
      some_readable 2 number_data Is32 info.holding (number_readable laws 2) fits.held,
      (
        number_readable laws 2 _ fits.number,
        (
          laws.texts 2 _,
          (
            some_readable 2 number_data Is32 info.time_threshold (number_readable laws 2) fits.time,
            (
              laws.lists 1 _ (all_readable 1 rule_data FitsRule info.triggers (rule_readable laws) fits.rules),
              (
                some_readable 2 number_data Is32 info.validity (number_readable laws 2) fits.valid,
                (some_readable 2 number_data IsVolume info.volume_threshold (volume_readable laws 2) fits.octets, tt),
              ),
            ),
          ),
        ),
      ),
    ),
  ),
)

result_readable : ReadBackLaws → (handling : Handling) → CanBeRead 1 (result_data handling)
result_readable laws handling = laws.objects 0 (result_fields handling) refl (laws.texts 0 _, tt)

pub answer_readable : ReadBackLaws → (answer : Answer) → FitsAnswer answer → CanBeRead 5 (answer_data answer)
answer_readable laws answer fits = laws.objects 4 (answer_fields answer) refl (
  any_readable 4 result_data answer.handling (λ handling. laws.deeper 1 4 _ (omega arith) (result_readable laws handling)),
  (
    number_readable laws 4 _ fits.numbered,
    (
      time_readable laws 4 _,
      (
        laws.lists 3 _ (all_readable 3 info_data FitsInfo answer.units (info_readable laws) fits.entries),
        (
          any_readable 4 failover_data answer.failover (λ b. laws.texts 4 _),
          (deeper_if laws 2 4 _ (omega arith) (laws.lists 1 _ (all_readable 1 rule_data FitsRule answer.triggers (rule_readable laws) fits.rules)), tt),
        ),
      ),
    ),
  ),
)

pub problem_readable : ReadBackLaws → (problem : Problem) → problem.status < 2 ^ 64 → CanBeRead 1 (problem_data problem)
problem_readable laws problem small = laws.objects 0 (problem_fields problem) refl (laws.texts 0 _, (any_readable 0 string problem.detail (laws.texts 0), (laws.numbers 0 _ small, tt)))
