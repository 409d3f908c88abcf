use Rattle.std.proofs.Common.{refl}
use Rattle.charging_json.specs.ReplyWritten.{answer_fields}
use Rattle.charging_json.proofs.reply_writer.put_answer.Goals as goal

pub returns-clause-ok : goal.returns-clause-ok
returns-clause-ok c = c.end_object.ensures.ok c.args.out.now.tokens (answer_fields c.args.answer.now) (rw (c.in_ok-put_rules.ensures.ok, c.as_slice-2.ensures, c.in_ok-put_failover.ensures.ok, c.in_ok-put_infos.ensures.ok, c.as_slice.ensures, c.in_ok-time.ensures.ok, c.in_ok-number_32.ensures.ok, c.in_ok-put_result.ensures.ok, c.in_ok-begin_object.ensures.ok) refl) refl
