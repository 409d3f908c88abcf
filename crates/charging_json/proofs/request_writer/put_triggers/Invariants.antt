use Rattle.std.proofs.Common.{◌≡◌, ◌++◌, take}
use Rattle.std.specs.Prelude.{fold}
use Rattle.json_objects.specs.Tokens.{tokens_of}
use Rattle.charging_json.specs.RequestWritten.{trigger_data}
use Rattle.charging_json.proofs.request_writer.put_triggers.Given as goal

abbrev pub invariant-loop-kind : goal.invariant-loop-kind
invariant-loop-kind l = record {
  tokens : l.out.tokens ≡ fold (λ ts kind. ts ++ tokens_of (trigger_data kind)) l.initial.out.tokens (take l.kind-index l.kinds);
  before : l.out.before ≡ l.initial.out.before;
}
