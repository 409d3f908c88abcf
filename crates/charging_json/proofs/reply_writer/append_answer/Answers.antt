use Rattle.std.proofs.Common.{refl, arith}
use Rattle.charging_json.specs.ReplyWritten.{answer_data}
use Rattle.charging_json.proofs.Appended.{appended, reads_as_object}
use Rattle.charging_json.proofs.ReplyReadable.{answer_readable}
use Rattle.charging_json.proofs.reply_writer.append_answer.Goals as goal

pub returns-in-Ok-clause-text : goal.returns-in-Ok-clause-text
returns-in-Ok-clause-text c = appended c.args.out.now c.replace.result c.new-writer.result.before c.put_answer.new.out.before c.into_bytes.result c.new-writer.result.tokens c.put_answer.new.out.tokens (answer_data c.args.answer.now)
    c.replace.ensures.value c.new-writer.ensures.before c.put_answer.ensures.before c.new-writer.ensures.tokens c.in-Ok.ensures.ok c.into_bytes.ensures.bytes c.into_bytes.ensures.text

pub returns-in-Ok-clause-body : goal.returns-in-Ok-clause-body
returns-in-Ok-clause-body c = λ fits. reads_as_object c.new-writer.result.tokens c.put_answer.new.out.tokens (answer_data c.args.answer.now) 5 (omega arith) (answer_readable c.written_values_read_back.ensures c.args.answer.now fits) refl
    c.new-writer.ensures.tokens c.in-Ok.ensures.ok c.into_bytes.ensures.text c.into_bytes.ensures.object
