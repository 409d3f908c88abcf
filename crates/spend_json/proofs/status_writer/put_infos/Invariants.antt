use Rattle.std.proofs.Common.{◌≡◌, take}
use Rattle.json_objects.specs.Tokens.{fields_after}
use Rattle.spend_json.specs.StatusWritten.{infos_fields}
use Rattle.spend_json.proofs.status_writer.put_infos.Given as goal

abbrev pub invariant-loop-info : goal.invariant-loop-info
invariant-loop-info l = record {
  tokens : l.out.tokens ≡ fields_after l.initial.out.tokens (infos_fields (take l.info-index l.infos));
  before : l.out.before ≡ l.initial.out.before;
}
