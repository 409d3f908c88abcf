use Rattle.std.proofs.Common.{◌≡◌, ◌++◌, take}
use Rattle.std.specs.Prelude.{fold}
use Rattle.json_objects.specs.Tokens.{tokens_of}
use Rattle.charging_json.specs.RequestWritten.{used_data}
use Rattle.charging_json.proofs.request_writer.put_containers.Given as goal

abbrev pub invariant-loop-container : goal.invariant-loop-container
invariant-loop-container l = record {
  tokens : l.out.tokens ≡ fold (λ ts container. ts ++ tokens_of (used_data container)) l.initial.out.tokens (take l.container-index l.used);
  before : l.out.before ≡ l.initial.out.before;
}
