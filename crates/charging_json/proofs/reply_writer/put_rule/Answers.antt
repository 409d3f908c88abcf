use Rattle.std.proofs.Common.{refl}
use Rattle.charging_json.specs.ReplyWritten.{rule_fields}
use Rattle.charging_json.proofs.reply_writer.put_rule.Goals as goal

pub returns-clause-ok : goal.returns-clause-ok
returns-clause-ok c = c.end_object.ensures.ok c.args.out.now.tokens (rule_fields c.args.rule.now)
    (rw (c.in_ok-number.ensures.ok, c.in_ok-text-2.ensures.ok, c.name_of_type.ensures, c.in_ok-text.ensures.ok, c.name_of_category.ensures, c.in_ok-number_32-2.ensures.ok, c.in_ok-number_32.ensures.ok, c.in_ok-begin_object.ensures.ok) refl) refl
