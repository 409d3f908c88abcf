use Rattle.std.proofs.Common.{◌≡◌, ◌++◌, take}
use Rattle.std.specs.Prelude.{fold}
use Rattle.json_objects.specs.Tokens.{tokens_of}
use Rattle.charging_json.specs.RequestWritten.{usage_data}
use Rattle.charging_json.proofs.request_writer.put_entries.Given as goal

abbrev pub invariant-loop-entry : goal.invariant-loop-entry
invariant-loop-entry l = record {
  tokens : l.out.tokens ≡ fold (λ ts entry. ts ++ tokens_of (usage_data entry)) l.initial.out.tokens (take l.entry-index l.usage);
  before : l.out.before ≡ l.initial.out.before;
}
