use Rattle.std.proofs.Common.{refl}
use Rattle.charging_json.specs.ReplyWritten.{last_units_fields}
use Rattle.charging_json.proofs.reply_writer.put_action.Goals as goal

pub returns-clause-ok : goal.returns-clause-ok
returns-clause-ok c = c.end_object.ensures.ok c.args.out.now.tokens (last_units_fields c.args.action) (rw (c.in_ok-text.ensures.ok, c.name_of_action.ensures, c.in_ok-begin_object.ensures.ok) refl) refl
