use Rattle.std.proofs.Common.{refl}
use Rattle.charging_json.specs.ReplyWritten.{result_fields}
use Rattle.charging_json.proofs.reply_writer.put_handling.Goals as goal

pub returns-clause-ok : goal.returns-clause-ok
returns-clause-ok c = c.end_object.ensures.ok c.args.out.now.tokens (result_fields c.args.handling) (rw (c.in_ok-text.ensures.ok, c.name_of_handling.ensures, c.in_ok-begin_object.ensures.ok) refl) refl
