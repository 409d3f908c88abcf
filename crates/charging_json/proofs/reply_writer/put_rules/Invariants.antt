use Rattle.std.proofs.Common.{◌≡◌, ◌++◌, take}
use Rattle.std.specs.Prelude.{fold}
use Rattle.json_objects.specs.Tokens.{tokens_of}
use Rattle.charging_json.specs.ReplyWritten.{rule_data}
use Rattle.charging_json.proofs.reply_writer.put_rules.Given as goal

abbrev pub invariant-loop-rule : goal.invariant-loop-rule
invariant-loop-rule l = record {
  tokens : l.out.tokens ≡ fold (λ ts rule. ts ++ tokens_of (rule_data rule)) l.initial.out.tokens (take l.rule-index l.rules);
  before : l.out.before ≡ l.initial.out.before;
}
