use Rattle.std.proofs.Common.{refl, arith}
use Rattle.charging_json.specs.ReplyWritten.{problem_data}
use Rattle.charging_json.proofs.Appended.{appended, reads_as_object}
use Rattle.charging_json.proofs.reply_writer.append_problem.Goals as goal

pub returns-in-Ok-clause-text : goal.returns-in-Ok-clause-text
returns-in-Ok-clause-text c = appended c.args.out.now c.replace.result c.new-writer.result.before c.put_problem.new.out.before c.into_bytes.result c.new-writer.result.tokens c.put_problem.new.out.tokens (problem_data c.args.problem.now)
    c.replace.ensures.value c.new-writer.ensures.before c.put_problem.ensures.before c.new-writer.ensures.tokens c.in-Ok.ensures.ok c.into_bytes.ensures.bytes c.into_bytes.ensures.text

pub returns-in-Ok-clause-body : goal.returns-in-Ok-clause-body
returns-in-Ok-clause-body c = reads_as_object c.new-writer.result.tokens c.put_problem.new.out.tokens (problem_data c.args.problem.now) 1 (omega arith) c.in-Ok.ensures.readable refl
    c.new-writer.ensures.tokens c.in-Ok.ensures.ok c.into_bytes.ensures.text c.into_bytes.ensures.object
