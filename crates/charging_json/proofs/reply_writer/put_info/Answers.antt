use Rattle.std.proofs.Common.{refl}
use Rattle.charging_json.specs.ReplyWritten.{info_fields}
use Rattle.charging_json.proofs.reply_writer.put_info.Goals as goal

pub returns-clause-ok : goal.returns-clause-ok
returns-clause-ok c = c.end_object.ensures.ok c.args.out.now.tokens (info_fields c.args.info.now) (rw (c.in_ok-put_bounds.ensures.ok, c.in_ok-text.ensures.ok, c.name_of_code.ensures, c.in_ok-number_32-2.ensures.ok, c.in_ok-number_32.ensures.ok, c.in_ok-put_granted.ensures.ok, c.in_ok-put_last_units.ensures.ok, c.in_ok-begin_object.ensures.ok) refl) refl
